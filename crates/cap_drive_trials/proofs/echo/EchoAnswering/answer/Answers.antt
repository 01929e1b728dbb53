use Rattle.std.proofs.Common.{refl, []}
use Rattle.std.proofs.lemmas.Bool.{false≢true}
use Rattle.cap_drive_trials.proofs.echo.EchoAnswering.answer.Goals as goal

pub returns-in-None-clause-answers : goal.returns-in-None-clause-answers
returns-in-None-clause-answers c = record {
  added = [];
  to_add = λ readable. refl;
  ok = refl;
  reply = ((λ readable. tt), tt);
  disk = λ is. (0, refl);
  failed = λ is. refl;
  memory = λ is. refl;
  has_cause = λ is. absurd (cc is);
  refuses = λ readable failed. refl;
  images = λ told. absurd (false≢true told);
}

pub returns-in-Some-eq113-clause-answers : goal.returns-in-Some-eq113-clause-answers
returns-in-Some-eq113-clause-answers c = record {
  added = [];
  to_add = λ readable. refl;
  ok = refl;
  reply = ((λ readable. tt), tt);
  disk = λ is. (0, refl);
  failed = λ is. refl;
  memory = λ is. refl;
  has_cause = λ is. absurd (cc is);
  refuses = λ readable failed. refl;
  images = λ told. absurd (false≢true told);
}
