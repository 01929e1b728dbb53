use Rattle.std.proofs.Common.{Bool, subst, arith}
use Rattle.std.proofs.lemmas.Result.{IfOk-weaker, on_err_weaker}
use Rattle.cap_exchange.specs.Exchange.{seen, heard_of}
use Rattle.cap_exchange.specs.Hearing.{Takes, Hears}
use Rattle.cap_exchange.proofs.Talking.{converses, breaks_behind, breaks_in_put, faults_in_put}
use Rattle.cap_exchange.proofs.exchanging.converse.Goals as goal

pub returns-in-Ok-clause-ok : goal.returns-in-Ok-clause-ok
returns-in-Ok-clause-ok g c =
    let e = c.in-Ok.ensures in
    IfOk-weaker c.listen.result _ _
    (λ heard x. converses _ c.args.framed.now (seen g.L.Link c.args.link.now) (seen g.L.Link c.put.new.self) (seen g.L.Link c.listen.new.link)
    e.bytes (record { port = omega (arith, e.port); line = e.cause.later }) (heard_of heard)
    (subst (λ (tells : Bool). Hears tells (heard_of heard) (seen g.L.Link c.put.new.self) (seen g.L.Link c.listen.new.link)) e.tells x))
    c.listen.ensures.ok

pub returns-in-Ok-clause-err : goal.returns-in-Ok-clause-err
returns-in-Ok-clause-err g c =
    let e = c.in-Ok.ensures in
    on_err_weaker c.listen.result
    (λ x. breaks_behind _ c.args.framed.now (seen g.L.Link c.args.link.now) (seen g.L.Link c.put.new.self) (seen g.L.Link c.listen.new.link)
    e.bytes (record { port = omega (arith, e.port); line = e.cause.later })
    (subst (λ (tells : Bool). Takes tells (seen g.L.Link c.put.new.self) (seen g.L.Link c.listen.new.link)) e.tells x))
    c.listen.ensures.err

pub returns-in-Err-Failed-clause-ok : goal.returns-in-Err-Failed-clause-ok
returns-in-Err-Failed-clause-ok g c =
    let e = c.in-Err-Failed.ensures in
    faults_in_put _ c.args.framed.now (seen g.L.Link c.args.link.now) (seen g.L.Link c.put.new.self) e.bytes
    (record { port = omega (arith, e.port); line = e.cause.later }) (e.cause.failed (cc c.in-Err-Failed.field-0-is))

pub returns-in-Err-Memory-clause-err : goal.returns-in-Err-Memory-clause-err
returns-in-Err-Memory-clause-err g c =
    let e = c.in-Err-Memory.ensures in
    breaks_in_put _ c.args.framed.now (seen g.L.Link c.args.link.now) (seen g.L.Link c.put.new.self) e.bytes
    (record { port = omega (arith, e.port); line = e.cause.later })
