use Rattle.std.proofs.Common.{rules, refl, sym, ◌∙◌, ap, subst, ⊎_elim, inl, inr, ◌≡◌, IsTrue, List, ℕ, ◌+◌, ◌-◌, ◌*◌, ◌<◌, ◌≤◌, length, Bool, true, false, [], ◌∷◌, ◌++◌}
use Rattle.std.proofs.lemmas.List.{append-nil}
use Rattle.cap_host_answers.specs.Received.{answer_received}
use Rattle.cap_host.specs.Host.{journal_of, entries_of}
use Rattle.cap_host.proofs.Answerings.{ends_as, ends_from, on_ok, on_ok_where, on_err, replied, either_front}
use Rattle.cap_answering.specs.declared.fault.HostFault.TheVariants.{Disk, Failed, Memory}
use Rattle.cap_host.proofs.answering.HostAnswering.answer.Goals as goal

pub returns-clause-answers : goal.returns-clause-answers
returns-clause-answers g c =
    let r = c.reading_is_exact.ensures.some c.args.bytes.now in
    let a = c.answer.ensures r.0 r.1 in
    record {
      added = (answer_received (entries_of c.args.self.now) r.0).added;
      to_add = λ readable. (r.0, r.1, refl);
      ok = on_ok c.answer.result _ (a.adds.grown c.args.self.now.readable);
      reply = replied (entries_of c.args.self.now) c.args.moment c.args.bytes.now r.0 _ c.answer.result r.1 a.told;
      disk = λ e. (0, on_err c.answer.result Disk _ a.adds.stays.refused e ∙ sym (append-nil (entries_of c.args.self.now)));
      failed = λ e. on_err c.answer.result Failed _ a.adds.stays.refused e;
      memory = λ e. on_err c.answer.result Memory _ a.adds.stays.refused e;
      has_cause = λ e. let f = a.adds.failed_before (ends_as c.answer.result Failed e) in (f.0, λ readable. f.1);
      refuses = on_ok_where c.answer.result _ _ (on_ok c.answer.result _ a.adds.refuses);
      images = λ tells works. let l = a.adds.images tells in record {
        later = l.later;
        each = λ image left. either_front image (entries_of c.args.self.now) (answer_received (entries_of c.args.self.now) r.0).added (⊎_elim (λ may. inl (g.met.J.Journal.kept (journal_of c.args.self.now) image tells (c.args.self.now.ledger.works works) may)) (λ has. inr has) (l.each image left));
        before = λ t image le left. ⊎_elim (λ was. inl was) (λ has. inr (either_front image (entries_of c.args.self.now) (answer_received (entries_of c.args.self.now) r.0).added (⊎_elim (λ may. inl (g.met.J.Journal.kept (journal_of c.args.self.now) image tells (c.args.self.now.ledger.works works) may)) (λ has. inr has) has))) (l.before t image le left);
      };
    }

pub returns-clause-disk : goal.returns-clause-disk
returns-clause-disk g c =
    let r = c.reading_is_exact.ensures.some c.args.bytes.now in
    λ e. (c.answer.ensures r.0 r.1).adds.stays.disk (ends_as c.answer.result Disk e)

pub returns-clause-fails : goal.returns-clause-fails
returns-clause-fails g c =
    let r = c.reading_is_exact.ensures.some c.args.bytes.now in
    λ e. (c.answer.ensures r.0 r.1).adds.stays.fails (ends_as c.answer.result Disk e)

pub returns-clause-still : goal.returns-clause-still
returns-clause-still g c =
    let r = c.reading_is_exact.ensures.some c.args.bytes.now in
    λ no. (c.answer.ensures r.0 r.1).adds.stays.still (λ e. no (ends_from c.answer.result Disk e))

pub returns-clause-faults : goal.returns-clause-faults
returns-clause-faults g c =
    let r = c.reading_is_exact.ensures.some c.args.bytes.now in
    (c.answer.ensures r.0 r.1).adds.stays.faults

pub returns-clause-tells : goal.returns-clause-tells
returns-clause-tells g c =
    let r = c.reading_is_exact.ensures.some c.args.bytes.now in
    (c.answer.ensures r.0 r.1).adds.stays.tells
