use Rattle.std.proofs.Common.{rules, refl, ℕ, List, subst, inr}
use Rattle.std.specs.Io.KnownBytes.{Appends}
use Rattle.cap_base.specs.Streams.{AppendsSome}
use Rattle.cap_replay.proofs.Premises.{some_reader, in_range}
use Rattle.cap_replay.proofs.Written.{replays, replays_front}
use Rattle.cap_replay.proofs.replaying.replay_over.Goals as goal

pub returns-in-Err-Line-clause-line : goal.returns-in-Err-Line-clause-line
returns-in-Err-Line-clause-line g c = λ k is. (record { some = some_reader c.reading_is_exact.ensures.some; each = λ reads reader. search rules }, refl)

pub play_over-requires : goal.play_over-requires
play_over-requires g c = in_range c.in-Ok.schedule c.in-Ok.ensures.matching c.in-Ok.ensures.range

pub returns-in-Ok-put-clause-ok : goal.returns-in-Ok-put-clause-ok
returns-in-Ok-put-clause-ok g c =
    let old = g.K.Sink.contents c.args.out.now in
    let new = g.K.Sink.contents c.put.new.self in
    let text : List ℕ = c.in-Ok-play_over.over.0.items in
    let puts : Appends old new text = subst (λ (t : List ℕ). Appends old new t) c.deref.ensures.value c.in-Ok-put.ensures.bytes in
    replays old new c.args.schedule.now text c.in-Ok.schedule c.in-Ok-play_over.over.1.items (some_reader c.reading_is_exact.ensures.some) c.in-Ok.ensures.ok c.in-Ok.ensures.noise c.in-Ok-play_over.ensures puts

pub returns-in-Err-Failed-clause-write : goal.returns-in-Err-Failed-clause-write
returns-in-Err-Failed-clause-write g c = λ _.
    let old = g.K.Sink.contents c.args.out.now in
    let new = g.K.Sink.contents c.put.new.self in
    let text : List ℕ = c.in-Ok-play_over.over.0.items in
    let puts : AppendsSome old new text = subst (λ (t : List ℕ). AppendsSome old new t) c.deref.ensures.value c.in-Err-Failed.ensures.bytes in
    (search rules, replays_front old new c.args.schedule.now text c.in-Ok.schedule c.in-Ok-play_over.over.1.items (some_reader c.reading_is_exact.ensures.some) c.in-Ok.ensures.ok c.in-Ok.ensures.noise c.in-Ok-play_over.ensures puts)

pub returns-clause-memory : goal.returns-clause-memory
returns-clause-memory g c = λ _.
    let old = g.K.Sink.contents c.args.out.now in
    let new = g.K.Sink.contents c.put.new.self in
    let text : List ℕ = c.in-Ok-play_over.over.0.items in
    let puts : AppendsSome old new text = subst (λ (t : List ℕ). AppendsSome old new t) c.deref.ensures.value c.in-Err-Memory-put.ensures.bytes in
    inr (replays_front old new c.args.schedule.now text c.in-Ok.schedule c.in-Ok-play_over.over.1.items (some_reader c.reading_is_exact.ensures.some) c.in-Ok.ensures.ok c.in-Ok.ensures.noise c.in-Ok-play_over.ensures puts)
