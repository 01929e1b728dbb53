-- A line's step that adds nothing: it sends, or hears what adds nothing.
use Rattle.std.proofs.Common.{◌≡◌, ℕ, ◌+◌, true, List, [], ◌∷◌, ◌++◌, length, Option, Some, None, Ok, Err, refl, sym, ◌∙◌, ap, subst, append-nil, arith}
use Rattle.std.specs.Prelude.{Result}
use Rattle.cap_disk.specs.Disk.{Counts}
use Rattle.cap_journal.specs.declared.journal.Journal.{Ghosts}
use Rattle.cap_journal.specs.File.{Has}
use Rattle.cap_leaf.specs.Date.{DateParts}
use Rattle.cap_msgs.specs.declared.message.Body.{Body}
use Rattle.cap_msgs.specs.declared.message.Message.{Message}
use Rattle.cap_entries.specs.declared.terminal.TermEntry.{TermEntry}
use Rattle.cap_entries.specs.TermRecord.{term_reading}
use Rattle.cap_schedule.specs.declared.outcome.Outcome.{Outcome}
use Rattle.cap_schedule.specs.declared.outcome.Outcome.TheVariants as O
use Rattle.cap_terminal_answers.specs.Sends.{Sending, message_of}
use Rattle.cap_world.specs.World.{TerminalState, TerminalAction, Sends_message}
use Rattle.cap_plays.specs.declared.fault.LineFault.{LineFault}
use Rattle.cap_plays.specs.declared.fault.LineFault.TheVariants.{Disk, Memory}
use Rattle.cap_plays.specs.Turns.{Work, worked, says, makes, sends}
use Rattle.cap_plays.specs.Plays.{no_doubt}
use Rattle.cap_plays.specs.Corresponds.{EachHas, TerminalCorresponds, EndFate}
use Rattle.cap_plays.specs.Holding.{end_has}
use Rattle.cap_plays.specs.Ends.{call_done}
use Rattle.cap_terminal_lines.specs.declared.said.Said.{Said}
use Rattle.cap_plays.specs.Texts.{IsSent}
use Rattle.cap_terminal_lines.specs.Sent.{SendsText}
use Rattle.cap_terminal_lines.specs.Acts.{end_armed, IsReady, LineDone}
use Rattle.cap_terminal_lines.proofs.Steps.{fate_quiet}

abbrev pub rests_by : TerminalAction → List Message → Work
rests_by action messages = record { action = action; added = []; sent = messages }

says_fate : (armed : Option ℕ) (s : TerminalState) (outcome ended : Outcome) → end_armed armed s (says outcome) ended ≡ record { state = s; doubt = no_doubt 0; outcome = outcome }
says_fate None s outcome ended = refl
says_fate (Some c) s outcome ended = refl

module _ {J : Type 0} (g : Ghosts J TermEntry) where
  -- the state with nothing more
  rested_at : (n : ℕ) (now : J) (heard : List Message) (s : TerminalState) (places : List ℕ) (armed : Option ℕ) (before : Counts) (action : TerminalAction) (messages : List Message)
      → IsReady g n now heard s places armed before
      → TerminalCorresponds (Has term_reading) (g.may_leave now) true (g.entries now) (s.sent ++ messages) heard (worked s (rests_by action messages)) places (no_doubt 0)
  rested_at n now heard s places armed before action messages ready =
      let is : g.entries now ≡ s.settled = ready.stands.end.entries_are refl in
      let each : EachHas (Has term_reading) (g.may_leave now) (g.entries now) =
      subst (λ (l : List TermEntry). EachHas (Has term_reading) (g.may_leave now) l) (sym is) (end_has (Has term_reading) (g.may_leave now) true (g.entries now) s.settled s.tried s.on (no_doubt 0) ready.stands.end (sym ready.stands.end.on_is)) in
      call_done (Has term_reading) (g.may_leave now) (g.may_leave now) (g.entries now) (g.entries now) s.sent (s.sent ++ messages) heard s places (no_doubt 0) (rests_by action messages) ready.stands (is ∙ sym (append-nil s.settled)) refl each

  pub quiet_line : (n : ℕ) (now : J) (heard : List Message) (s : TerminalState) (places : List ℕ) (armed : Option ℕ) (ended : Outcome) (before : Counts) (action : TerminalAction) (messages : List Message) (outcome : Outcome) (given : Said)
      → IsReady g n now heard s places armed before → given.outcome ≡ outcome → IsSent given.sent (messages ++ [])
      → LineDone g n now heard s places armed ended before (makes (rests_by action messages) outcome) (Ok given)
  quiet_line n now heard s places armed ended before action messages outcome given ready is text =
      let work = rests_by action messages in
      let fate : end_armed armed s (makes work outcome) ended ≡ record { state = worked s work; doubt = no_doubt 0; outcome = outcome } =
      fate_quiet armed before s work (says outcome) ended ready.is_armed refl ∙ says_fate armed (worked s work) outcome ended in
      record {
        told = ready.told;
        works = ready.works;
        after = before;
        counts_are = ready.counts_are;
        goes_on = record { stop = refl; later = omega arith; few = omega arith };
        stands = subst (λ (f : EndFate). TerminalCorresponds (Has term_reading) (g.may_leave now) true (g.entries now) f.state.sent heard f.state places f.doubt) (sym fate) (rested_at n now heard s places armed before action messages ready);
        outcome_is = is ∙ ap (λ (f : EndFate). f.outcome) (sym fate);
        sent_is = text;
      }

  -- a message is sent
  pub sent_line : (now : J) (heard : List Message) (s : TerminalState) (places : List ℕ) (armed : Option ℕ) (ended : Outcome) (before : Counts) (what : Sending) (moment sent : ℕ) (created : DateParts) (number : ℕ) (body : Body) (message : Message) (result : Result Said LineFault)
      → IsReady g 0 now heard s places armed before → sent ≡ length s.sent → message ≡ message_of s.settled created None number body → SendsText message sent result
      → LineDone g 0 now heard s places armed ended before (sends s what moment created number body) result
  sent_line now heard s places armed ended before what moment sent created number body message (Ok given) ready count is text =
      quiet_line 0 now heard s places armed ended before (Sends_message what moment) (message_of s.settled created None number body ∷ []) (O.Sent (length s.sent + 1)) given ready
      (text.0 ∙ ap (λ (n : ℕ). O.Sent (n + 1)) count) (subst (λ (m : Message). IsSent given.sent (m ∷ [])) is text.1)
  sent_line now heard s places armed ended before what moment sent created number body message (Err Disk) ready count is text = absurd text
  sent_line now heard s places armed ended before what moment sent created number body message (Err Memory) ready count is text = tt
