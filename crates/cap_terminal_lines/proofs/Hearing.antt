-- What a line makes of what a terminal takes.
use Rattle.std.proofs.Common.{◌≡◌, ◌⊎◌, inl, inr, ℕ, Bool, true, false, not, List, [], ◌∷◌, ◌++◌, Option, Some, Ok, Err, refl, sym, ◌∙◌, ap, subst}
use Rattle.std.specs.Prelude.{Result, nat_le, nat_lt, if◌then◌else◌, length}
use Rattle.std.proofs.lemmas.Bool.{false≢true, cond-false}
use Rattle.std.proofs.lemmas.Option.{none-some, same_Some}
use Rattle.cap_base.specs.declared.codes.Response.{Response}
use Rattle.cap_base.specs.declared.codes.Response.TheVariants.{Appr, Decl, Part as Part_response, Tech}
use Rattle.cap_disk.specs.Disk.{Counts}
use Rattle.cap_journal.specs.declared.journal.Journal.{Ghosts}
use Rattle.cap_msgs.specs.declared.message.Message.{Message}
use Rattle.cap_msgs.specs.Received.{Received, Read, Unread}
use Rattle.cap_msgs.specs.Reply.{Reply, Rejects, Decides_sale, Decides_cancel, Tells_state, Gives_plan, Gives_part, Acknowledges, From_terminal, reply_of, Acknowledgement, Of_end, Of_cancel, Of_close, Of_items, acknowledges, named_item}
use Rattle.cap_entries.specs.declared.terminal.TermEntry.{TermEntry}
use Rattle.cap_entries.specs.declared.terminal.TermEntry.TheVariants.{Declined, Acked, Part as Part_entry}
use Rattle.cap_entries.specs.Acked.{acked}
use Rattle.cap_entries.specs.Items.{items}
use Rattle.cap_entries.specs.Allowed.{part_allowed}
use Rattle.cap_sale.specs.declared.response.AuthResponse.{AuthResponse}
use Rattle.cap_terminal_answers.specs.declared.handled.Handled.{Handled}
use Rattle.cap_terminal_answers.specs.declared.handled.Handled.TheVariants as H
use Rattle.cap_terminal_answers.specs.declared.handled.TermFault.{TermFault}
use Rattle.cap_terminal_answers.specs.declared.handled.TermFault.TheVariants as F
use Rattle.cap_terminal.specs.Adding.{Adds, ending, take_as}
use Rattle.cap_terminal.specs.Causes.{is_adding}
use Rattle.cap_terminal.specs.Handles.{Handles}
use Rattle.cap_terminal_answers.specs.Does.{Decline}
use Rattle.cap_terminal_answers.specs.Takes.{Taken, IsNotOurs, refuses, takes, take_reply, take_acknowledgement, is_awaited, acked_answer, is_for_us}
use Rattle.cap_schedule.specs.declared.outcome.Outcome.{Outcome}
use Rattle.cap_schedule.specs.declared.outcome.Outcome.TheVariants as O
use Rattle.cap_world.specs.World.{TerminalState, TerminalAction}
use Rattle.cap_plays.specs.declared.fault.LineFault.{LineFault}
use Rattle.cap_plays.specs.declared.fault.LineFault.TheVariants.{Disk}
use Rattle.cap_plays.specs.Turns.{makes, Decided, left_with, on_response, on_handled, fault_outcome, decided, decides_on}
use Rattle.cap_terminal_lines.specs.declared.said.Said.{Said}
use Rattle.cap_plays.specs.Texts.{IsSent}
use Rattle.cap_terminal_lines.specs.Acts.{IsReady, LineDone}
use Rattle.cap_terminal_lines.specs.Hears.{decision_in, IsAnswerAlone, says_only, refusal_of, DecidedDone}
use Rattle.cap_terminal_lines.proofs.Steps.{Kept, CountsNow, ToldIsReadable, add_ok, add_disk, grew, broke, rested_none, rested_ready}
use Rattle.cap_terminal_lines.proofs.Quiet.{quiet_line}

-- what is taken adds nothing, or one entry with an answer that decides no sale
abbrev pub IsSorted : Taken → Type 0
IsSorted taken = (taken.added ≡ []) ⊎ ((entry : TermEntry) × (handled : Handled) × (taken.added ≡ entry ∷ []) × (taken.answer ≡ Ok handled) × IsAnswerAlone handled)

sorted_either : (b : Bool) (x y : Taken) → IsSorted x → IsSorted y → IsSorted (if b then x else y)
sorted_either true x y one other = one
sorted_either false x y one other = other

acknowledgement_alone : (m : ℕ) (ack : Acknowledgement) → IsAnswerAlone (acked_answer m ack)
acknowledgement_alone m (Of_end response) = refl
acknowledgement_alone m (Of_cancel response) = refl
acknowledgement_alone m (Of_close response period totals) = refl
acknowledgement_alone m (Of_items response last) = refl

acknowledgement_sorted : (entries : List TermEntry) (m : ℕ) (ack : Acknowledgement) → IsSorted (take_acknowledgement entries m ack)
acknowledgement_sorted entries m ack =
    sorted_either (not (acknowledges ack)) _ _ (inl refl)
    (sorted_either (nat_le m (acked entries)) _ _ (inl refl)
    (sorted_either (nat_lt (length (items entries)) m) _ _ (inl refl)
    (sorted_either (is_awaited entries m ack) _ _ (inr (Acked m, acked_answer m ack, refl, refl, acknowledgement_alone m ack)) (inl refl))))

reply_sorted : (entries : List TermEntry) (number : ℕ) (reply : Reply) → IsSorted (take_reply entries number reply)
reply_sorted entries number (Rejects reason) = inl refl
reply_sorted entries number (Decides_sale response code) = inl refl
reply_sorted entries number (Decides_cancel response) = inl refl
reply_sorted entries number (Tells_state last) = inl refl
reply_sorted entries number (Gives_plan actions) = inl refl
reply_sorted entries number (Gives_part part) = sorted_either (part_allowed entries part) _ _ (inr (Part_entry part, H.Part part.version part.part part.parts, refl, refl, refl)) (inl refl)
reply_sorted entries number (Acknowledges ack) = acknowledgement_sorted entries (named_item number ack) ack
reply_sorted entries number From_terminal = inl refl

pub taken_sorted : (entries : List TermEntry) (received : Received) → IsSorted (takes entries received)
taken_sorted entries (Unread fault) = inl refl
taken_sorted entries (Read message) = sorted_either (is_for_us entries message) _ _ (reply_sorted entries message.header.exchange (reply_of message.body)) (inl refl)

-- an answer that decides no sale adds nothing more, and says the same whatever the entries are
pub alone_decided : (walks_out : Bool) (entries : List TermEntry) (handled : Handled) → IsAnswerAlone handled → on_handled walks_out entries handled ≡ left_with (on_handled false [] handled).outcome
alone_decided walks_out entries (H.Authorisation given) alone = absurd (none-some given (sym alone))
alone_decided walks_out entries (H.CancelAnswer n response) alone = refl
alone_decided walks_out entries (H.Diagnosed last) alone = refl
alone_decided walks_out entries (H.Plan actions) alone = refl
alone_decided walks_out entries (H.Part version part parts) alone = refl
alone_decided walks_out entries (H.Acked m) alone = refl
alone_decided walks_out entries (H.Reconciled m totals agree) alone = refl

-- an answer that has a decision is that decision
pub decision_is : (handled : Handled) (given : AuthResponse) → Some given ≡ decision_in handled → handled ≡ H.Authorisation given
decision_is (H.Authorisation other) given is = ap (λ (x : AuthResponse). H.Authorisation x) (same_Some _ _ (sym is))
decision_is (H.CancelAnswer n response) given is = absurd (none-some given (sym is))
decision_is (H.Diagnosed last) given is = absurd (none-some given (sym is))
decision_is (H.Plan actions) given is = absurd (none-some given (sym is))
decision_is (H.Part version part parts) given is = absurd (none-some given (sym is))
decision_is (H.Acked m) given is = absurd (none-some given (sym is))
decision_is (H.Reconciled m totals agree) given is = absurd (none-some given (sym is))

-- noise adds nothing
pub noise_adds_nothing : (entries : List TermEntry) (received : Received) → IsNotOurs entries received → (takes entries received).added ++ (decides_on false entries received).added ≡ []
noise_adds_nothing entries (Unread fault) noise = refl
noise_adds_nothing entries (Read message) noise =
    ap (λ (t : Taken). t.added ++ (decided false entries t.answer).added) (cond-false (is_for_us entries message) (take_reply entries message.header.exchange (reply_of message.body)) (refuses F.NotForUs) noise)

-- a sale that is not approved is declined
pub declined : (walks_out : Bool) (n : ℕ) (response : Response) (code : List ℕ) → (response ≡ Appr → ⊥) → on_response walks_out n response code ≡ record { decision = Decline; added = Declined n ∷ []; outcome = O.DeclinedSale n }
declined walks_out n Appr code other = absurd (other refl)
declined walks_out n Decl code other = refl
declined walks_out n Part_response code other = refl
declined walks_out n Tech code other = refl

-- an answer that is a refusal adds nothing
refused_adds_nothing : (taken : Taken) (fault : TermFault) → IsSorted taken → taken.answer ≡ Err fault → taken.added ≡ []
refused_adds_nothing taken fault (inl none) is = none
refused_adds_nothing taken fault (inr (entry, handled, added, answer, alone)) is = absurd (let e = sym answer ∙ is in cc)

abbrev failed_disk : Result Handled TermFault
failed_disk = Err F.Disk

abbrev taken_as : Handled → Result Handled TermFault
taken_as handled = Ok handled

not_adding : (added : List TermEntry) → is_adding added ≡ true → added ≡ [] → ⊥
not_adding added adding none = false≢true (sym (ap is_adding none) ∙ adding)

module _ {J : Type 0} (g : Ghosts J TermEntry) (kept : Kept g) (counts_now : CountsNow g) (told_is_readable : ToldIsReadable g) where
  -- a line of one step that adds this and says this
  abbrev pub StepDone : J → List Message → TerminalState → List ℕ → Option ℕ → Outcome → Counts → TerminalAction → Result Said LineFault → (taken : List TermEntry) → Decided → Type 0
  StepDone now heard s places armed ended before action result taken d =
      LineDone g 4 now heard s places armed ended before (makes (record { action = action; added = taken ++ d.added; sent = [] }) d.outcome) result

  -- the state's entries in place of the journal's
  heard_in : (now : J) (heard : List Message) (s : TerminalState) (places : List ℕ) (armed : Option ℕ) (ended : Outcome) (before : Counts) (action : TerminalAction) (result : Result Said LineFault) (walks_out : Bool) (received : Received) (list : List TermEntry)
      → list ≡ s.settled → StepDone now heard s places armed ended before action result (takes list received).added (decided walks_out list (takes list received).answer)
      → StepDone now heard s places armed ended before action result (takes s.settled received).added (decides_on walks_out s.settled received)
  heard_in now heard s places armed ended before action result walks_out received list is done =
      subst (λ (l : List TermEntry). StepDone now heard s places armed ended before action result (takes l received).added (decides_on walks_out l received)) is done

  pub only_said : (now : J) (heard : List Message) (s : TerminalState) (places : List ℕ) (armed : Option ℕ) (ended : Outcome) (before : Counts) (action : TerminalAction) (outcome : Outcome) (given : Said)
      → IsReady g 4 now heard s places armed before → given ≡ says_only outcome → StepDone now heard s places armed ended before action (Ok given) [] (left_with outcome)
  only_said now heard s places armed ended before action outcome given ready is =
      quiet_line g 4 now heard s places armed ended before action [] outcome given ready (ap (λ (d : Said). d.outcome) is) (subst (λ (d : Said). IsSent d.sent []) (sym is) tt)

  -- what was taken added nothing
  rested_after : (old mid : J) (heard : List Message) (s : TerminalState) (places : List ℕ) (armed : Option ℕ) (before : Counts) (taken : Taken) (result : Result Handled TermFault)
      → IsReady g 4 old heard s places armed before → Handles g old mid result taken → taken.added ≡ []
      → IsReady g 4 mid heard s places armed before
  rested_after old mid heard s places armed before taken result ready h none =
      let adds : Adds g old mid [] (ending take_as result) = subst (λ (l : List TermEntry). Adds g old mid l (ending take_as result)) none h.adds in
      rested_ready g 4 old mid heard s places armed before ready (rested_none g kept told_is_readable old mid (ending take_as result) adds before ready.counts_are ready.few ready.told ready.works)

  -- a refusal of its own
  refused_line : (old new : J) (heard : List Message) (s : TerminalState) (places : List ℕ) (armed : Option ℕ) (ended : Outcome) (before : Counts) (action : TerminalAction) (walks_out : Bool) (received : Received) (fault : TermFault)
      → IsReady g 4 old heard s places armed before → Handles g old new (Err fault) (takes (g.entries old) received)
      → (takes (g.entries old) received).answer ≡ Err fault
      → StepDone new heard s places armed ended before action (Ok (says_only (fault_outcome fault))) (takes s.settled received).added (decides_on walks_out s.settled received)
  refused_line old new heard s places armed ended before action walks_out received fault ready h answer =
      let taken : Taken = takes (g.entries old) received in
      let given : Result Said LineFault = Ok (says_only (fault_outcome fault)) in
      let none : taken.added ≡ [] = refused_adds_nothing taken fault (taken_sorted (g.entries old) received) answer in
      let again = rested_after old new heard s places armed before taken (Err fault) ready h none in
      let line = only_said new heard s places armed ended before action (fault_outcome fault) (says_only (fault_outcome fault)) again refl in
      heard_in new heard s places armed ended before action given walks_out received (g.entries old) (ready.stands.end.entries_are refl)
      (subst (λ (r : Result Handled TermFault). StepDone new heard s places armed ended before action given taken.added (decided walks_out (g.entries old) r)) (sym answer)
      (subst (λ (l : List TermEntry). StepDone new heard s places armed ended before action given l (left_with (fault_outcome fault))) (sym none) line))

  -- a device call failed as the entry was added
  broken_heard : (old new : J) (heard : List Message) (s : TerminalState) (places : List ℕ) (armed : Option ℕ) (ended : Outcome) (before : Counts) (action : TerminalAction) (walks_out : Bool) (received : Received)
      → IsReady g 4 old heard s places armed before → Handles g old new (Err F.Disk) (takes (g.entries old) received)
      → IsSorted (takes (g.entries old) received)
      → StepDone new heard s places armed ended before action (Err Disk) (takes s.settled received).added (decides_on walks_out s.settled received)
  broken_heard old new heard s places armed ended before action walks_out received ready h (inl none) = absurd (not_adding (takes (g.entries old) received).added h.refused.0 none)
  broken_heard old new heard s places armed ended before action walks_out received ready h (inr (entry, handled, added, answer, alone)) =
      let taken : Taken = takes (g.entries old) received in
      let d : Decided = on_handled walks_out (g.entries old) handled in
      let outcome : Outcome = (on_handled false [] handled).outcome in
      let adds : Adds g old new (entry ∷ []) (ending take_as failed_disk) = subst (λ (l : List TermEntry). Adds g old new l (ending take_as failed_disk)) added h.adds in
      let breaks = broke g kept counts_now old new entry (take_as F.Disk) refl adds in
      let line = add_disk g old new entry outcome breaks action heard s places armed ended before ready in
      heard_in new heard s places armed ended before action (Err Disk) walks_out received (g.entries old) (ready.stands.end.entries_are refl)
      (subst (λ (r : Result Handled TermFault). StepDone new heard s places armed ended before action (Err Disk) taken.added (decided walks_out (g.entries old) r)) (sym answer)
      (subst (λ (l : List TermEntry). StepDone new heard s places armed ended before action (Err Disk) l d) (sym added)
      (subst (λ (x : Decided). StepDone new heard s places armed ended before action (Err Disk) (entry ∷ []) x) (sym (alone_decided walks_out (g.entries old) handled alone))
      line)))

  -- the line goes on with an answer that was taken
  taken_line : (old mid new : J) (heard : List Message) (s : TerminalState) (places : List ℕ) (armed : Option ℕ) (ended : Outcome) (before : Counts) (action : TerminalAction) (walks_out : Bool) (received : Received) (handled : Handled) (result : Result Said LineFault)
      → IsReady g 4 old heard s places armed before → Handles g old mid (Ok handled) (takes (g.entries old) received)
      → DecidedDone g mid new (λ l. on_handled walks_out l handled) result
      → (IsAnswerAlone handled → result ≡ Ok (says_only (on_handled false [] handled).outcome)) → (IsAnswerAlone handled → new ≡ mid)
      → IsSorted (takes (g.entries old) received)
      → StepDone new heard s places armed ended before action result (takes s.settled received).added (decides_on walks_out s.settled received)
  taken_line old mid new heard s places armed ended before action walks_out received handled result ready h done says_it stays (inl none) =
      let taken : Taken = takes (g.entries old) received in
      let is : g.entries old ≡ s.settled = ready.stands.end.entries_are refl in
      let again = rested_after old mid heard s places armed before taken (Ok handled) ready h none in
      let line = subst (λ (l : List TermEntry). StepDone new heard s places armed ended before action result [] (on_handled walks_out l handled)) (sym is) (done action heard s places armed ended before again) in
      heard_in new heard s places armed ended before action result walks_out received (g.entries old) is
      (subst (λ (r : Result Handled TermFault). StepDone new heard s places armed ended before action result taken.added (decided walks_out (g.entries old) r)) (sym h.answer)
      (subst (λ (l : List TermEntry). StepDone new heard s places armed ended before action result l (on_handled walks_out (g.entries old) handled)) (sym none) line))
  taken_line old mid new heard s places armed ended before action walks_out received handled result ready h done says_it stays (inr (entry, other, added, answer, alone)) =
      let taken : Taken = takes (g.entries old) received in
      let is : g.entries old ≡ s.settled = ready.stands.end.entries_are refl in
      let outcome : Outcome = (on_handled false [] handled).outcome in
      let both = sym answer ∙ h.answer in
      let same_answer : other ≡ handled = cc in
      let alone_too : IsAnswerAlone handled = subst (λ (x : Handled). IsAnswerAlone x) same_answer alone in
      let adds : Adds g old mid (entry ∷ []) (ending take_as (taken_as handled)) = subst (λ (l : List TermEntry). Adds g old mid l (ending take_as (taken_as handled))) added h.adds in
      let grows = grew g kept told_is_readable old mid entry adds in
      let line = add_ok g old mid entry outcome (says_only outcome) refl grows action heard s places armed ended before ready in
      heard_in new heard s places armed ended before action result walks_out received (g.entries old) is
      (subst (λ (r : Result Handled TermFault). StepDone new heard s places armed ended before action result taken.added (decided walks_out (g.entries old) r)) (sym h.answer)
      (subst (λ (l : List TermEntry). StepDone new heard s places armed ended before action result l (on_handled walks_out (g.entries old) handled)) (sym added)
      (subst (λ (x : Decided). StepDone new heard s places armed ended before action result (entry ∷ []) x) (sym (alone_decided walks_out (g.entries old) handled alone_too))
      (subst (λ (r : Result Said LineFault). StepDone new heard s places armed ended before action r (entry ∷ []) (left_with outcome)) (sym (says_it alone_too))
      (subst (λ (j : J). StepDone j heard s places armed ended before action (Ok (says_only outcome)) (entry ∷ []) (left_with outcome)) (sym (stays alone_too)) line)))))

  pub heard_ok : (old mid new : J) (walks_out : Bool) (received : Received) (handled : Handled) (result : Result Said LineFault)
      → Handles g old mid (Ok handled) (takes (g.entries old) received)
      → DecidedDone g mid new (λ l. on_handled walks_out l handled) result
      → (IsAnswerAlone handled → result ≡ Ok (says_only (on_handled false [] handled).outcome)) → (IsAnswerAlone handled → new ≡ mid)
      → (action : TerminalAction) (heard : List Message) (s : TerminalState) (places : List ℕ) (armed : Option ℕ) (ended : Outcome) (before : Counts) → IsReady g 4 old heard s places armed before
      → StepDone new heard s places armed ended before action result (takes s.settled received).added (decides_on walks_out s.settled received)
  heard_ok old mid new walks_out received handled result h done says_it stays action heard s places armed ended before ready =
      taken_line old mid new heard s places armed ended before action walks_out received handled result ready h done says_it stays (taken_sorted (g.entries old) received)

  pub heard_err : (old new : J) (walks_out : Bool) (received : Received) (fault : TermFault)
      → Handles g old new (Err fault) (takes (g.entries old) received)
      → (action : TerminalAction) (heard : List Message) (s : TerminalState) (places : List ℕ) (armed : Option ℕ) (ended : Outcome) (before : Counts) → IsReady g 4 old heard s places armed before
      → StepDone new heard s places armed ended before action (refusal_of fault) (takes s.settled received).added (decides_on walks_out s.settled received)
  heard_err old new walks_out received F.Disk h action heard s places armed ended before ready =
      broken_heard old new heard s places armed ended before action walks_out received ready h (taken_sorted (g.entries old) received)
  heard_err old new walks_out received F.Failed h action heard s places armed ended before ready = absurd (false≢true (sym ready.works ∙ h.refused.1))
  heard_err old new walks_out received F.Memory h action heard s places armed ended before ready = tt
  heard_err old new walks_out received (F.Unread fault) h action heard s places armed ended before ready =
      refused_line old new heard s places armed ended before action walks_out received (F.Unread fault) ready h h.refused
  heard_err old new walks_out received F.NotForUs h action heard s places armed ended before ready =
      refused_line old new heard s places armed ended before action walks_out received F.NotForUs ready h h.refused
  heard_err old new walks_out received (F.Rejected reason) h action heard s places armed ended before ready =
      refused_line old new heard s places armed ended before action walks_out received (F.Rejected reason) ready h h.refused
  heard_err old new walks_out received F.NotAwaited h action heard s places armed ended before ready =
      refused_line old new heard s places armed ended before action walks_out received F.NotAwaited ready h h.refused
  heard_err old new walks_out received (F.Stale m acked) h action heard s places armed ended before ready =
      refused_line old new heard s places armed ended before action walks_out received (F.Stale m acked) ready h h.refused
  heard_err old new walks_out received (F.Beyond m len) h action heard s places armed ended before ready =
      refused_line old new heard s places armed ended before action walks_out received (F.Beyond m len) ready h h.refused
