-- What the steps of a line send, and what a line that was ended leaves of it.
use Rattle.std.proofs.Common.{◌≡◌, ℕ, ◌-◌, Bool, true, false, List, [], ◌∷◌, ◌++◌, length, Option, Some, None, refl, sym, ◌∙◌, ap, append-nil}
use Rattle.std.specs.Prelude.{⊤, nat_le, nat_lt, if◌then◌else◌, slice_get, count_by, IsSome}
use Rattle.std.proofs.lemmas.List.{append_assoc}
use Rattle.cap_base.specs.declared.item.Item.{Item}
use Rattle.cap_leaf.specs.Date.{DateParts}
use Rattle.cap_msgs.specs.declared.message.Message.{Message}
use Rattle.cap_msgs.specs.Received.{Received}
use Rattle.cap_entries.specs.declared.terminal.TermEntry.TheVariants.{Cancelled, Closed}
use Rattle.cap_entries.specs.Entry.{is_any_begin, is_pending, amount_of, max_of}
use Rattle.cap_entries.specs.Allowed.{allowed}
use Rattle.cap_entries.specs.Floor.{floor}
use Rattle.cap_ledger.specs.Adding.{calls_for}
use Rattle.cap_plain.specs.Queue.{queue}
use Rattle.cap_terminal_answers.specs.Takes.{queue_head}
use Rattle.cap_schedule.specs.declared.outcome.Outcome.{Outcome}
use Rattle.cap_schedule.specs.declared.outcome.Outcome.TheVariants.{WasCut}
use Rattle.cap_schedule.specs.declared.schedule.Order.{Order}
use Rattle.cap_schedule.specs.declared.schedule.Order.TheVariants as T
use Rattle.cap_world.specs.World.{TerminalState}
use Rattle.cap_plays.specs.Turns.{Work, worked, Turn, turn_of, begins, next_sale, next_period, offline_turn, sends_head, hears, hears_it, nth}
use Rattle.cap_plays.specs.Plays.{no_doubt}
use Rattle.cap_plays.specs.Corresponds.{EndFate, end_whole, end_in, end_after, end_cut_after}
use Rattle.cap_terminal_lines.specs.Acts.{end_armed, sent_in}
use Rattle.cap_terminal_side.specs.Prefixes.{after_settled, after_off, after_doubt, after_outcome}

-- of the steps of a line only the last one sends
abbrev pub SendsFrom : Work → List Work → Type 0
SendsFrom work [] = ⊤
SendsFrom work (next ∷ works) = (work.sent ≡ []) × SendsFrom next works

abbrev pub SendsLast : List Work → Type 0
SendsLast [] = ⊤
SendsLast (work ∷ works) = SendsFrom work works

either_sends : (b : Bool) (x y : Turn) → SendsLast x.works → SendsLast y.works → SendsLast (if b then x else y).works
either_sends true x y one other = one
either_sends false x y one other = other

-- a step that sends nothing stands before such steps
behind_sends : (work : Work) (works : List Work) → work.sent ≡ [] → SendsLast works → SendsLast (work ∷ works)
behind_sends work [] nothing last = tt
behind_sends work (next ∷ works) nothing last = (nothing, last)

offline_sends : (s : TerminalState) (n : ℕ) → SendsLast (offline_turn s n).works
offline_sends s n = either_sends (is_pending s.settled n) _ _ (either_sends (nat_le (amount_of s.settled n) (floor s.settled)) _ _ tt tt) tt

head_sends : (s : TerminalState) (moment : ℕ) (created : DateParts) (item : Option Item) → SendsLast (sends_head s moment created item).works
head_sends s moment created None = tt
head_sends s moment created (Some item) = tt

answer_sends : (walks_out : Bool) (s : TerminalState) (j place : ℕ) (message : Option Message) → SendsLast (hears_it walks_out s j place message).works
answer_sends walks_out s j place None = tt
answer_sends walks_out s j place (Some message) = tt

hearing_sends : (walks_out : Bool) (s : TerminalState) (j : ℕ) (place : Option ℕ) → SendsLast (hears walks_out s j place).works
hearing_sends walks_out s j None = tt
hearing_sends walks_out s j (Some place) = answer_sends walks_out s j place (slice_get s.answers place)

pub sends_last : (reads : List ℕ → Received) (s : TerminalState) (counted : List ℕ) (moment : ℕ) (created : DateParts) (order : Order) → SendsLast (turn_of reads s counted moment created order).works
sends_last reads s counted moment created (T.Begin amount account) = either_sends (nat_lt (count_by is_any_begin s.settled) (max_of s.settled)) _ _ tt tt
sends_last reads s counted moment created (T.Offline n) = offline_sends s n
sends_last reads s counted moment created (T.Sale amount account) =
    either_sends (nat_lt (count_by is_any_begin s.settled) (max_of s.settled)) _ _
    (behind_sends (begins s.settled amount account) (offline_turn (worked s (begins s.settled amount account)) (next_sale s.settled)).works refl (offline_sends (worked s (begins s.settled amount account)) (next_sale s.settled))) tt
sends_last reads s counted moment created (T.Void n) = either_sends (is_pending s.settled n) _ _ tt tt
sends_last reads s counted moment created (T.Cancel n) = either_sends (allowed s.settled (Cancelled n)) _ _ tt tt
sends_last reads s counted moment created T.Close = either_sends (allowed s.settled (Closed (next_period s.settled))) _ _ tt tt
sends_last reads s counted moment created T.Push = head_sends s moment created (queue_head s.settled)
sends_last reads s counted moment created (T.Batch limit) = either_sends (nat_lt 0 (length (queue s.settled))) _ _ tt tt
sends_last reads s counted moment created (T.Ask n) = either_sends (is_pending s.settled n) _ _ tt tt
sends_last reads s counted moment created (T.AskCancel n) = either_sends (allowed s.settled (Cancelled n)) _ _ tt tt
sends_last reads s counted moment created T.Diagnose = tt
sends_last reads s counted moment created (T.Status wanted) = tt
sends_last reads s counted moment created (T.Down j) = hearing_sends false s j (nth counted j)
sends_last reads s counted moment created (T.Walkout j) = hearing_sends true s j (nth counted j)
sends_last reads s counted moment created (T.Hear bytes) = tt

on_is_not_off : {A : Type 0} (b : Bool) → b ≡ true → b ≡ false → A
on_is_not_off b on off = cc

-- a line that was done to its end sends what its steps send
whole_sent : (s : TerminalState) (works : List Work) (outcome : Outcome) → (end_whole s works outcome).state.sent ≡ s.sent ++ sent_in works
whole_sent s [] outcome = sym (append-nil s.sent)
whole_sent s (work ∷ works) outcome = whole_sent (worked s work) works outcome ∙ append_assoc s.sent work.sent (sent_in works)

either_on : (b : Bool) (x y : EndFate) (list : List Message) → x.state.on ≡ false → (y.state.on ≡ true → y.state.sent ≡ list) → (if b then x else y).state.on ≡ true → (if b then x else y).state.sent ≡ list
either_on true x y list off sent on = on_is_not_off x.state.on on off
either_on false x y list off sent on = sent on

in_sent : (s : TerminalState) (works : List Work) (outcome ended : Outcome) (c : ℕ) → (end_in s works outcome ended c).state.on ≡ true → (end_in s works outcome ended c).state.sent ≡ s.sent ++ sent_in works
in_sent s [] outcome ended c on = sym (append-nil s.sent)
in_sent s (work ∷ works) outcome ended c on =
    either_on (nat_le c (calls_for work.added)) _ _ (s.sent ++ (work.sent ++ sent_in works)) refl
    (λ still. in_sent (worked s work) works outcome ended (c - calls_for work.added) still ∙ append_assoc s.sent work.sent (sent_in works)) on

pub done_sent : (armed : Option ℕ) (s : TerminalState) (turn : Turn) (ended : Outcome) → (end_armed armed s turn ended).state.on ≡ true → (end_armed armed s turn ended).state.sent ≡ s.sent ++ sent_in turn.works
done_sent None s turn ended on = whole_sent s turn.works turn.outcome
done_sent (Some c) s turn ended on = in_sent s turn.works turn.outcome ended c on

-- one that a call has ended sends nothing
either_off : (b : Bool) (x y : EndFate) (list : List Message) → x.state.sent ≡ list → (y.state.on ≡ false → y.state.sent ≡ list) → (if b then x else y).state.on ≡ false → (if b then x else y).state.sent ≡ list
either_off true x y list sent other off = sent
either_off false x y list sent other off = other off

in_broken : (s : TerminalState) (work : Work) (works : List Work) (outcome ended : Outcome) (c : ℕ) → SendsFrom work works
    → (end_in s (work ∷ works) outcome ended c).state.on ≡ false → (end_in s (work ∷ works) outcome ended c).state.sent ≡ s.sent
in_broken s work [] outcome ended c last off = either_off (nat_le c (calls_for work.added)) _ _ s.sent refl (λ still. on_is_not_off true refl still) off
in_broken s work (next ∷ works) outcome ended c last off =
    either_off (nat_le c (calls_for work.added)) _ _ s.sent refl
    (λ still. in_broken (worked s work) next works outcome ended (c - calls_for work.added) last.1 still ∙ (ap (λ l. s.sent ++ l) last.0 ∙ append-nil s.sent)) off

ended_sent : (s : TerminalState) (works : List Work) (outcome ended : Outcome) (c : ℕ) → SendsLast works → (end_in s works outcome ended c).state.on ≡ false → (end_in s works outcome ended c).state.sent ≡ s.sent
ended_sent s [] outcome ended c last off = refl
ended_sent s (work ∷ works) outcome ended c last off = in_broken s work works outcome ended c last off

none_is_not_some : {A : Type 0} → false ≡ true → A
none_is_not_some some = cc

pub broken_sent : (armed : Option ℕ) (s : TerminalState) (turn : Turn) (ended : Outcome) → IsSome armed → SendsLast turn.works → (end_armed armed s turn ended).state.on ≡ false
    → (end_armed armed s turn ended).state.sent ≡ s.sent
broken_sent None s turn ended some last off = none_is_not_some some
broken_sent (Some c) s turn ended some last off = ended_sent s turn.works turn.outcome ended c last off

-- where the power goes after its last step, the last step sends nothing
after_sent : (s : TerminalState) (work : Work) (works : List Work) → SendsFrom work works → (end_after s work works).state.sent ≡ s.sent
after_sent s work [] last = refl
after_sent s work (next ∷ works) last = after_sent (worked s work) next works last.1 ∙ (ap (λ l. s.sent ++ l) last.0 ∙ append-nil s.sent)

after_answers : (s : TerminalState) (work : Work) (works : List Work) → (end_after s work works).state.answers ≡ s.answers
after_answers s work [] = refl
after_answers s work (next ∷ works) = after_answers (worked s work) next works

-- what stands after it
pub record CutAfterLast (s : TerminalState) (works : List Work) (outcome : Outcome) (fate : EndFate) : Type 0 where
  pub grown : (end_whole s works outcome).state.settled ≡ fate.state.settled ++ fate.state.tried
  pub off : fate.state.on ≡ false
  pub all : fate.doubt ≡ no_doubt (length fate.state.tried)
  pub cut : fate.outcome ≡ WasCut
  pub sent_still : fate.state.sent ≡ s.sent
  pub answers_still : fate.state.answers ≡ s.answers

pub cut_after_last : (s : TerminalState) (works : List Work) (outcome : Outcome) → SendsLast works → CutAfterLast s works outcome (end_cut_after s works)
cut_after_last s [] outcome last = record { grown = sym (append-nil (s.settled ++ []) ∙ append-nil s.settled); off = refl; all = refl; cut = refl; sent_still = refl; answers_still = refl }
cut_after_last s (work ∷ works) outcome last = record {
  grown = after_settled s work works outcome;
  off = after_off s work works;
  all = after_doubt s work works;
  cut = after_outcome s work works;
  sent_still = after_sent s work works last;
  answers_still = after_answers s work works;
}
