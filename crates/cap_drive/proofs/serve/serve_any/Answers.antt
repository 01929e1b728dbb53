use Rattle.std.proofs.Common.{◌++◌, ◌∷◌, [], refl, ◌∙◌, arith}
use Rattle.cap_drive.proofs.Passed.{holds_now}
use Rattle.cap_drive.proofs.Running.{running_still, running_more, serves_write, serves_line_lacks, serves_in, counted_next, goes_on_as, breaks_in_as}
use Rattle.cap_drive.proofs.serve.serve_any.Goals as goal

pub returns-in-Err-serve_one-clause-serves : goal.returns-in-Err-serve_one-clause-serves
returns-in-Err-serve_one-clause-serves g c =
    let inv = c.loop-i.invariant in
    let next = c.in-Ok-true.ensures in
    let x = running_still _ _ _ _ _ _ _ _ _ _ (g.L.Link.lines c.loop-i.link) (g.L.Link.lines c.loop-i.link) _ _ _ _ (g.L.Link.line_faults c.next.new.self) _ _ _ (λ _. refl) next.line inv.so_far in
    let y = breaks_in_as _ _ _ _ _ _ _ _ _ _ inv.host_tells inv.is_readable inv.told (next.tells ∙ inv.tells) _ _ _ _ _ _ _ _ _ _ _ _ _ _ c.in-Err-serve_one.ensures.breaks in (
      x.served ++ y.c ∷ [],
      y.stands,
      serves_in _ _ _ _ _ _ _ c.args.connections _ _ _ _ _ _ _ _ _ _ _ _ _ _ _ x c.loop-i-test.true (λ told. next.opens (inv.tells ∙ told) (cc c.in-Ok-true.field-0-test)) _ _ _ _ _ _ _ y,
      counted_next _ x.served y.c x.many,
      y.comes,
      y.holds,
    )

pub returns-in-Err-Failed-clause-serves : goal.returns-in-Err-Failed-clause-serves
returns-in-Err-Failed-clause-serves g c =
    let inv = c.loop-i.invariant in
    let next = c.in-Ok-true.ensures in
    let x = running_still _ _ _ _ _ _ _ _ _ _ (g.L.Link.lines c.loop-i.link) (g.L.Link.lines c.loop-i.link) _ _ _ _ (g.L.Link.line_faults c.next.new.self) _ _ _ (λ _. refl) next.line inv.so_far in
    let y = goes_on_as _ _ _ _ _ _ _ _ _ _ inv.host_tells inv.is_readable inv.told (next.tells ∙ inv.tells) _ _ _ _ _ _ _ _ _ _ c.in-Ok.ensures.goes in (
      x.served ++ y.c ∷ [],
      _,
      serves_write _ _ _ _ _ _ _ c.args.connections _ _ _ _ _ _ _ _ _ _ _ _ _ _ _ x c.loop-i-test.true (λ told. next.opens (inv.tells ∙ told) (cc c.in-Ok-true.field-0-test)) _ _ _ y _ c.in-Err-Failed.ensures.line,
      counted_next _ x.served y.c x.many,
      (refl, c.in-Ok.ensures.works),
      λ told. holds_now g.A.Answering.has (g.A.Answering.may_leave c.in-Ok.one.0) (g.A.Answering.entries c.in-Ok.one.0) (λ image left. g.met.A.Answering.kept c.in-Ok.one.0 image (c.in-Ok.ensures.host_tells ∙ (inv.host_tells ∙ told)) c.in-Ok.ensures.works left),
    )

pub returns-in-Err-Memory-clause-serves : goal.returns-in-Err-Memory-clause-serves
returns-in-Err-Memory-clause-serves g c =
    let inv = c.loop-i.invariant in
    let next = c.in-Ok-true.ensures in
    let x = running_still _ _ _ _ _ _ _ _ _ _ (g.L.Link.lines c.loop-i.link) (g.L.Link.lines c.loop-i.link) _ _ _ _ (g.L.Link.line_faults c.next.new.self) _ _ _ (λ _. refl) next.line inv.so_far in
    let y = goes_on_as _ _ _ _ _ _ _ _ _ _ inv.host_tells inv.is_readable inv.told (next.tells ∙ inv.tells) _ _ _ _ _ _ _ _ _ _ c.in-Ok.ensures.goes in (
      x.served ++ y.c ∷ [],
      _,
      serves_line_lacks _ _ _ _ _ _ _ c.args.connections _ _ _ _ _ _ _ _ _ _ _ _ _ _ _ x c.loop-i-test.true (λ told. next.opens (inv.tells ∙ told) (cc c.in-Ok-true.field-0-test)) _ _ _ y _ c.in-Err-Memory.ensures.line,
      counted_next _ x.served y.c x.many,
      (refl, c.in-Ok.ensures.works),
      λ told. holds_now g.A.Answering.has (g.A.Answering.may_leave c.in-Ok.one.0) (g.A.Answering.entries c.in-Ok.one.0) (λ image left. g.met.A.Answering.kept c.in-Ok.one.0 image (c.in-Ok.ensures.host_tells ∙ (inv.host_tells ∙ told)) c.in-Ok.ensures.works left),
    )

pub loop-i-preserved : goal.loop-i-preserved
loop-i-preserved g c =
    let inv = c.loop-i.invariant in
    let next = c.in-Ok-true.ensures in
    let e = c.in-Ok.ensures in
    let x = running_still _ _ _ _ _ _ _ _ _ _ (g.L.Link.lines c.loop-i.link) (g.L.Link.lines c.loop-i.link) _ _ _ _ (g.L.Link.line_faults c.next.new.self) _ _ _ (λ _. refl) next.line inv.so_far in
    let y = goes_on_as _ _ _ _ _ _ _ _ _ _ inv.host_tells inv.is_readable inv.told (next.tells ∙ inv.tells) _ _ _ _ _ _ _ _ _ _ e.goes in
    record {
      so_far = running_more _ _ _ _ _ _ _ c.args.connections _ _ _ _ _ _ _ _ _ _ _ _ _ _ _ x c.loop-i-test.true (λ told. next.opens (inv.tells ∙ told) (cc c.in-Ok-true.field-0-test)) _ _ _ y _ c.in-Ok-put_line.ensures.line;
      works = e.works;
      is_readable = e.is_readable ∙ inv.is_readable;
      host_tells = e.host_tells ∙ inv.host_tells;
      told = e.told ∙ inv.told;
      tells = e.tells ∙ (next.tells ∙ inv.tells);
      disk_later = omega (arith, e.faults, inv.disk_later);
      line_later = omega (arith, e.line_later, next.line, inv.line_later);
      port_later = omega (arith, e.port, next.cause.later, inv.port_later);
      out_later = omega (arith, c.in-Ok-put_line.ensures.cause.later, inv.out_later);
    }
