use Rattle.std.proofs.Common.{inl, refl, sym, ap, ◌∙◌, List, ℕ, IsTrue}
use Rattle.cap_link.specs.Lines.{nothing}
use Rattle.cap_answering.specs.declared.reply.Reply.{Reply}
use Rattle.cap_answering.specs.declared.reply.Reply.TheVariants.{Bytes, Silent}
use Rattle.cap_drive.proofs.OneFrame.{served_frame, broken_put, lacks_to_put, lacks_before}
use Rattle.cap_drive.proofs.answer.serve_frame.Goals as goal

pub returns-in-Ok-Silent-clause-ok : goal.returns-in-Ok-Silent-clause-ok
returns-in-Ok-Silent-clause-ok g c =
    let a = c.in-Ok-Silent.ensures.answers in
    served_frame _ _ _ _ _ _ c.moment-moment.result c.args.body.now _ _ a.added _ _ c.in-Ok-Silent.field-0 Silent c.in-Ok-Silent.field-0-is c.moment-moment.ensures.range a.to_add a.reply.0 a.ok c.moment-moment.ensures.moment
    (λ told. nothing _ (g.met.L.Link.shows_open c.args.link.now told c.requires.open))

pub returns-in-Ok-clause-ok : goal.returns-in-Ok-clause-ok
returns-in-Ok-clause-ok g c =
    let a = c.in-Ok-Bytes.ensures.answers in
    served_frame _ _ _ _ _ _ c.moment-moment.result c.args.body.now _ _ a.added _ _ c.in-Ok-Bytes.field-0 (Bytes c.as_slice.result.now) (c.in-Ok-Bytes.field-0-is ∙ ap (λ (t : List ℕ). let r : Reply = Bytes t in r) (sym c.as_slice.ensures)) c.moment-moment.ensures.range a.to_add a.reply.0 a.ok c.moment-moment.ensures.moment
    (λ told. c.in-Ok.ensures.bytes told)

pub returns-in-Err-Failed-put_reply-clause-err : goal.returns-in-Err-Failed-put_reply-clause-err
returns-in-Err-Failed-put_reply-clause-err g c =
    let a = c.in-Ok-Bytes.ensures.answers in
    broken_put _ _ _ _ _ _ c.moment-moment.result c.args.body.now _ _ a.added _ _ c.in-Ok-Bytes.field-0 (Bytes c.as_slice.result.now) (c.in-Ok-Bytes.field-0-is ∙ ap (λ (t : List ℕ). let r : Reply = Bytes t in r) (sym c.as_slice.ensures)) c.moment-moment.ensures.range a.to_add a.reply.0 a.ok c.moment-moment.ensures.moment
    g.A.Answering.has g.A.Answering.is_allowed (g.A.Answering.may_leave c.answer.new.self) (λ told. c.in-Err-Failed-put_reply.ensures.bytes told)

pub returns-in-Ok-Bytes-clause-err : goal.returns-in-Ok-Bytes-clause-err
returns-in-Ok-Bytes-clause-err g c =
    let a = c.in-Ok-Bytes.ensures.answers in
    lacks_to_put _ _ _ _ _ _ c.moment-moment.result c.args.body.now _ _ a.added _ _ c.in-Ok-Bytes.field-0 (Bytes c.as_slice.result.now) (c.in-Ok-Bytes.field-0-is ∙ ap (λ (t : List ℕ). let r : Reply = Bytes t in r) (sym c.as_slice.ensures)) c.moment-moment.ensures.range a.to_add a.reply.0 a.ok c.moment-moment.ensures.moment
    g.A.Answering.has g.A.Answering.is_allowed (g.A.Answering.may_leave c.answer.new.self) (λ told. c.in-Err-Memory-put_reply.ensures.bytes told)

pub returns-in-Err-Memory-clause-err : goal.returns-in-Err-Memory-clause-err
returns-in-Err-Memory-clause-err g c =
    inl (lacks_before _ _ _ _ _ _ c.args.body.now _ _ _ _ (c.in-Err-Memory.ensures.answers.memory (cc c.in-Err-Memory.field-0-is)) (λ told. nothing _ (g.met.L.Link.shows_open c.args.link.now told c.requires.open)))

pub returns-in-Err-Disk-clause-err : goal.returns-in-Err-Disk-clause-err
returns-in-Err-Disk-clause-err g c =
    let a = c.in-Err-Disk.ensures.answers in
    let images = λ (told : IsTrue (g.A.Answering.tells c.args.host.now)). a.images told c.requires.works in (
      record {
        moment = c.moment-moment.result;
        is_told = c.moment-moment.ensures.moment;
        added = a.added;
        tries = (c.moment-moment.ensures.range, a.to_add, refl);
        left = λ told image may. (images told).each image (g.met.A.Answering.counts_now c.answer.new.self (g.A.Answering.tick c.args.host.now) image (c.answer.ensures.tells ∙ told) (images told).later may);
        allowed = λ reads kept. g.met.A.Answering.stays_allowed (g.A.Answering.entries c.args.host.now) c.moment-moment.result c.args.body.now a.added kept (g.met.A.Answering.allowed c.args.host.now) (a.to_add reads);
      },
      λ told. nothing _ (g.met.L.Link.shows_open c.args.link.now told c.requires.open),
    )
