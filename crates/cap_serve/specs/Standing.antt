-- What the replies of a run acknowledge stands.
use Rattle.std.proofs.Common.{◌≡◌, ℕ, ◌+◌, ◌≤◌, Bool, List, [], ◌∷◌, ◌++◌, length, take, map, Option, Some, None, refl, sym, ◌∙◌, ap, subst, append_assoc, length-append, arith}
use Rattle.std.specs.Prelude.{IsTrue}
use Rattle.std.specs.List.{AllByRecursion}
use Rattle.cap_msgs.specs.declared.message.Body.{Body}
use Rattle.cap_msgs.specs.Received.{Received}
use Rattle.cap_msgs.specs.Reads.{Reads}
use Rattle.cap_entries.specs.declared.host.HostEntry.{HostEntry}
use Rattle.cap_entries.specs.Log.{log}
use Rattle.cap_entries.specs.LogLaws.{log-append}
use Rattle.cap_answering.specs.Steps.{Event, Acts, EndState, Steps, Holds, steps_grow}
use Rattle.cap_host_answers.specs.Received.{place_named, number_of, answer_received}
use Rattle.cap_host.specs.Reply.{IsReply}
use Rattle.cap_host.specs.Answering.{HostAdds, HostReplies, HostHas}
use Rattle.cap_drive.specs.Frames.{Answered, Task, task_of, Does, Tries}
use Rattle.cap_drive.specs.Connections.{Connection, last_events, events_of, all_events}
use Rattle.cap_serve.specs.Within.{NamesWithin, answer_within}

-- A host whose entries are a front of these answered the frame, and what its reply acknowledges stands in them: the items of the terminal that it names,
-- up to the number.
pub record StandsBehind (entries : List HostEntry) (a : Answered) : Type 0 where
  pub before : List HostEntry
  pub more : List HostEntry
  pub front : entries ≡ before ++ more
  pub received : Received
  pub reads : Reads a.body received
  pub replied : IsReply before a.moment received (answer_received before received).reply a.reply
  pub stand : NamesWithin (length (log entries (place_named before received))) (number_of received) (answer_received before received).reply

-- so with every reply that was put
abbrev pub AllStand : List HostEntry → List Connection → Type 0
AllStand entries served = AllByRecursion (λ (c : Connection). AllByRecursion (StandsBehind entries) c.answered) served

names_grow : (less more number : ℕ) (reply : Option Body) → less ≤ more → NamesWithin less number reply → NamesWithin more number reply
names_grow less more number None le within = tt
names_grow less more number (Some body) le within = omega (arith, le, within)

-- bytes read as one thing
abbrev pub ReadsOne : Type 0
ReadsOne = (bytes : List ℕ) (received other : Received) → Reads bytes received → Reads bytes other → received ≡ other

answered_stands : ReadsOne → (entries before added more : List HostEntry) (a : Answered) → entries ≡ (before ++ added) ++ more
    → HostAdds before a.moment a.body added → HostReplies before a.moment a.body a.reply → StandsBehind entries a
answered_stands one entries before added more a is (received, reads, adds) (other, also, replied) =
    let same : other ≡ received = one a.body other received also reads in
    let place = place_named before received in
    let within = subst (λ (l : List HostEntry). NamesWithin (length (log (before ++ l) place)) (number_of received) (answer_received before received).reply) (sym adds) (answer_within before received) in
    let longer : length (log entries place) ≡ length (log (before ++ added) place) + length (log more place) =
    ap (λ (l : List HostEntry). length (log l place)) is ∙ (ap length (log-append (before ++ added) more place) ∙ length-append (log (before ++ added) place) (log more place)) in
    record {
      before = before;
      more = added ++ more;
      front = is ∙ append_assoc before added more;
      received = received;
      reads = reads;
      replied = subst (λ (r : Received). IsReply before a.moment r (answer_received before r).reply a.reply) same replied;
      stand = names_grow (length (log (before ++ added) place)) (length (log entries place)) (number_of received) (answer_received before received).reply (omega (arith, longer)) within;
    }

module _ (one : ReadsOne) (known readable : Bool) (knows : IsTrue known) (reads : IsTrue readable) where
  abbrev pub Runs : EndState HostEntry → List (Event Task) → EndState HostEntry → Type 0
  Runs s events new = Steps known (Does readable HostAdds HostReplies) (Tries readable HostAdds HostReplies) s events new

  -- the steps behind some of these
  steps_behind : (s new : EndState HostEntry) (events more : List (Event Task)) → Runs s (events ++ more) new → (mid : EndState HostEntry) × Runs mid more new
  steps_behind s new [] more steps = (s, steps)
  steps_behind s new (event ∷ events) more (next, step, steps) = steps_behind next new events more steps

  -- of the frames that were answered one after another, in steps that lead to what these entries begin with
  frames_stand : (entries tail : List HostEntry) (new : EndState HostEntry) → entries ≡ new.settled ++ tail → (answered : List Answered) (more : List (Event Task)) (s : EndState HostEntry)
      → Runs s (map (λ (a : Answered). Acts (task_of a)) answered ++ more) new → AllByRecursion (StandsBehind entries) answered
  frames_stand entries tail new is [] more s steps = tt
  frames_stand entries tail new is (a ∷ answered) more s (next, (added, on, (within, adds, replies), moved), steps) =
      let grown = steps_grow known (Does readable HostAdds HostReplies) (Tries readable HostAdds HostReplies) next new (map (λ (b : Answered). Acts (task_of b)) answered ++ more) knows steps in
      let split : entries ≡ (s.settled ++ added) ++ (grown.0 ++ tail) =
      is ∙ (ap (λ (l : List HostEntry). l ++ tail) (grown.1 ∙ ap (λ (v : EndState HostEntry). v.settled ++ grown.0) moved) ∙ append_assoc (s.settled ++ added) grown.0 tail) in
      (answered_stands one entries s.settled added (grown.0 ++ tail) a split (adds reads) (replies reads), frames_stand entries tail new is answered more next steps)

  run_stands : (entries tail : List HostEntry) (new : EndState HostEntry) → entries ≡ new.settled ++ tail → (served : List Connection) (s : EndState HostEntry)
      → Runs s (all_events served) new → AllStand entries served
  run_stands entries tail new is [] s steps = tt
  run_stands entries tail new is (c ∷ served) s steps =
      let joined = append_assoc (map (λ (a : Answered). Acts (task_of a)) c.answered) (last_events c.ending) (all_events served) in
      let first = frames_stand entries tail new is c.answered (last_events c.ending ++ all_events served) s (subst (λ (l : List (Event Task)). Runs s l new) joined steps) in
      let rest = steps_behind s new (events_of c) (all_events served) steps in
      (first, run_stands entries tail new is served rest.0 rest.1)

  -- in each image of an end that stands so
  pub images_stand : (images : List ℕ → Type 0) (served : List Connection) (start stands : EndState HostEntry) → Runs start (all_events served) stands → Holds HostHas images stands
      → (image : List ℕ) → images image → (list : List HostEntry) × HostHas image list × AllStand list served
  images_stand images served start stands steps holds image left =
      let found = holds image left in
      let list = stands.settled ++ take found.0 stands.tried in
      (list, found.1, run_stands list (take found.0 stands.tried) stands refl served start steps)
