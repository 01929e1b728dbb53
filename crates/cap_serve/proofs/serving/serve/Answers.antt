use Rattle.cap_answering.specs.Steps.{working}
use Rattle.cap_host.specs.Host.{entries_of}
use Rattle.cap_serve.specs.Standing.{images_stand}
use Rattle.cap_serve.proofs.serving.serve.Goals as goal

pub returns-clause-serves : goal.returns-clause-serves
returns-clause-serves g c =
    let run = c.serve_any-end.ensures.serves in
    record {
      served = run.0;
      stands = run.1;
      serves = run.2;
      comes_back = run.4;
      images = run.5;
      acknowledged = λ told readable. images_stand c.reading_is_exact.ensures.one _ _ told readable _ run.0 (working (entries_of c.args.host)) run.1 run.2.run.steps (run.5 told);
    }
