use Rattle.std.proofs.Common.{◌∙◌, arith}
use Rattle.cap_drive.proofs.Passed.{disk_shut, goes_reopened, breaks_shut, rose_later_so}
use Rattle.cap_drive.proofs.serve.serve_one.Goals as goal

pub returns-in-Ok-clause-goes : goal.returns-in-Ok-clause-goes
returns-in-Ok-clause-goes g c =
    let e = c.serve_connection-closing.ensures in
    let images = g.A.Answering.may_leave c.serve_connection-closing.new.host in
    let x = disk_shut _ _ _ _ _ _ g.A.Answering.has g.A.Answering.is_allowed images _ _ _ _ _ c.close.ensures.lines c.in-Disk.ensures.closes in
    goes_reopened _ _ _ _ _ _ g.A.Answering.has g.A.Answering.is_allowed images _ _ _ _ x (g.A.Answering.entries c.in-Ok.end) _ _ _ _ (omega (arith, e.line_later, c.close.ensures.line)) (rose_later_so _ _ _ c.in-Disk.ensures.risen c.in-Ok.ensures.faults)
    (λ image list other one also. g.met.A.Answering.has_one image list other one also) (λ told. c.in-Ok.ensures.entries (e.host_tells ∙ told))

pub returns-in-Err-clause-breaks : goal.returns-in-Err-clause-breaks
returns-in-Err-clause-breaks g c =
    let e = c.serve_connection-closing.ensures in
    let images = g.A.Answering.may_leave c.serve_connection-closing.new.host in
    let x = disk_shut _ _ _ _ _ _ g.A.Answering.has g.A.Answering.is_allowed images _ _ _ _ _ c.close.ensures.lines c.in-Disk.ensures.closes in
    breaks_shut _ _ _ _ _ _ g.A.Answering.has g.A.Answering.is_allowed images _ _ _ _ x g.A.Answering.entries g.A.Answering.has_failed g.A.Answering.may_leave g.A.Answering.journal_may_leave c.in-Err.why c.in-Err.journal _ _ _ (g.A.Answering.faults c.serve_connection-closing.new.host) _
    (omega (arith, e.line_later, c.close.ensures.line)) c.in-Disk.ensures.risen c.in-Err.ensures.back_faults c.in-Err.ensures.which
    (λ told. c.in-Err.ensures.refused (e.host_tells ∙ told)) (λ told all. c.in-Err.ensures.disk (e.host_tells ∙ told) all)
