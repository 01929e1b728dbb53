use Rattle.std.proofs.Common.{◌≡◌, [], None, subst, arith}
use Rattle.std.proofs.lemmas.Result.{MatchResult-at_ok, MatchResult-at_err, err_from_is_err_and}
use Rattle.cap_lines.specs.Reading.{Answers, Waits}
use Rattle.cap_lines.proofs.Turning.{come_on, prompt_on, turns_failed, turns_finished, waits_on}
use Rattle.cap_lines.proofs.reader.LineReader.next.Goals as goal

pub returns-in_err-refill-clause-turn : goal.returns-in_err-refill-clause-turn
returns-in_err-refill-clause-turn g c =
    let answers : Answers c.pieces.self c.answer.new.self None = subst (Answers c.pieces.self c.answer.new.self) c.in_default.is c.answer.ensures.answers in
    let w : Waits c.answer.new.self = c.answer.ensures.waits c.in_default.is in
    let refills = c.refill.ensures.refills in
    let none : refills.0 ≡ [] = MatchResult-at_err _ (λ _. refills.0 ≡ []) c.in_err-refill.field-0.0 c.in_err-refill.was refills.3 in
    let come = come_on _ c.pieces.self c.answer.new.self c.refill.new.self _ _ _ refills.0 c.pieces.invariant.so_far answers w refills.1 refills.2 in
    let p = err_from_is_err_and c.from_residual.result c.from_residual.ensures.1 in
    turns_failed _ c.refill.new.self _ _ p.0 c.from_residual.result come (waits_on c.answer.new.self c.refill.new.self refills.0 w refills.2 none) p.1

pub returns-then-branch-eq0-clause-turn : goal.returns-then-branch-eq0-clause-turn
returns-then-branch-eq0-clause-turn g c =
    let answers : Answers c.pieces.self c.answer.new.self None = subst (Answers c.pieces.self c.answer.new.self) c.in_default.is c.answer.ensures.answers in
    let w : Waits c.answer.new.self = c.answer.ensures.waits c.in_default.is in
    let refills = c.refill.ensures.refills in
    let all = MatchResult-at_ok _ (λ _. refills.0 ≡ []) c.in_ok-refill.field-0 c.in_ok-refill.was refills.3 in
    let come = come_on _ c.pieces.self c.answer.new.self c.refill.new.self _ _ _ refills.0 c.pieces.invariant.so_far answers w refills.1 refills.2 in
    turns_finished _ c.refill.new.self c.finish.new.self _ _ c.finish.result come c.finish.ensures (all.1 c.if-branch-eq0.true)

pub returns-in_err-refill-clause-prompt : goal.returns-in_err-refill-clause-prompt
returns-in_err-refill-clause-prompt g c =
    let answers : Answers c.pieces.self c.answer.new.self None = subst (Answers c.pieces.self c.answer.new.self) c.in_default.is c.answer.ensures.answers in
    prompt_on _ c.pieces.self c.answer.new.self c.refill.new.self _ _ c.pieces.invariant.so_far c.pieces.invariant.prompt answers (c.answer.ensures.waits c.in_default.is)

pub returns-then-branch-eq0-clause-prompt : goal.returns-then-branch-eq0-clause-prompt
returns-then-branch-eq0-clause-prompt g c =
    let answers : Answers c.pieces.self c.answer.new.self None = subst (Answers c.pieces.self c.answer.new.self) c.in_default.is c.answer.ensures.answers in
    prompt_on _ c.pieces.self c.answer.new.self c.finish.new.self _ _ c.pieces.invariant.so_far c.pieces.invariant.prompt answers (c.answer.ensures.waits c.in_default.is)

pub pieces-preserved : goal.pieces-preserved
pieces-preserved g c =
    let answers : Answers c.pieces.self c.answer.new.self None = subst (Answers c.pieces.self c.answer.new.self) c.in_default.is c.answer.ensures.answers in
    let w : Waits c.answer.new.self = c.answer.ensures.waits c.in_default.is in
    let refills = c.refill.ensures.refills in
    record {
      so_far = come_on _ c.pieces.self c.answer.new.self c.refill.new.self _ _ _ refills.0 c.pieces.invariant.so_far answers w refills.1 refills.2;
      prompt = prompt_on _ c.pieces.self c.answer.new.self c.refill.new.self _ _ c.pieces.invariant.so_far c.pieces.invariant.prompt answers w;
      faults = omega (arith, c.pieces.invariant.faults, c.refill.ensures.input_later);
    }
