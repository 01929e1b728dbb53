-- The work of the ends on what a network brings is a run.
use Rattle.std.proofs.Common.{◌≡◌, ℕ, List, [], ◌∷◌, ◌++◌, length, sym, ◌∙◌, ap, subst, append-nil, Option, refl, ⊎_elim}
use Rattle.std.specs.Prelude.{slice_set}
use Rattle.std.proofs.lemmas.Bool.{cond-false}
use Rattle.cap_msgs.specs.declared.message.Message.{Message}
use Rattle.cap_msgs.specs.Received.{Received, Read, Unread}
use Rattle.cap_entries.specs.Settings.{TerminalSettings, HostSettings}
use Rattle.cap_entries.specs.declared.terminal.TermEntry.{TermEntry}
use Rattle.cap_entries.specs.declared.host.HostEntry.{HostEntry}
use Rattle.cap_entries.specs.Log.{setup_of}
use Rattle.cap_host_answers.specs.Received.{place_or, place_named}
use Rattle.cap_terminal_answers.specs.declared.handled.TermFault.{TermFault}
use Rattle.cap_terminal_answers.specs.Takes.{Taken, refuses, is_for_us, takes, IsNotOurs}
use Rattle.cap_terminal_answers.specs.Does.{Decision, Leave, Complete, Give_up, Decline, Decides}
use Rattle.cap_answering.specs.Steps.{Event, Acts, Interrupted, Restart, Interrupted_restart}
use Rattle.cap_world.specs.World.{TerminalState, World, TerminalAction, Begins, Offline, Gives_up, Cancels, Closes, Sends_message, Takes_answer, Hears_foreign, TerminalDoes, TerminalStep, HostAction, Answers, Answers_foreign, Publishes, HostDoes, HostStep, Happening, At_terminal, At_host, Step, first, Run}
use Rattle.cap_entries.specs.SetUps.{SetUpsMatch}
use Rattle.std.specs.Prelude.{Err}
use Rattle.cap_world.proofs.Named.{NamingWorld, step_naming, run_naming, first_naming, NamedMessage, setup_kept, named_message}
use Rattle.cap_world.specs.Node.{TerminalTask, Does_own, Takes_received, IsOwnTask, terminal_with, TerminalTasks, HostTask, Answers_received, Adds_set, HostTasks, TerminalIsBrought, HostIsBrought, TerminalDoing, HostDoing, Doing, By_terminal, By_host, MergedBytes, MergedBytesAreARun}

-- a refusal leaves nothing to decide
no_decision : (entries : List TermEntry) (fault : TermFault) (decision : Decision) (decided : List TermEntry) → Decides entries (Err fault) decision decided → decided ≡ []
no_decision entries fault Leave decided is = is
no_decision entries fault Complete decided (given, e, a, p, is) = absurd (let no' : ⊥ = cc in no')
no_decision entries fault Give_up decided (given, e, a, p, is) = absurd (let no' : ⊥ = cc in no')
no_decision entries fault Decline decided (given, e, a, p, is) = absurd (let no' : ⊥ = cc in no')

not_ours : (entries : List TermEntry) (received : Received) → IsNotOurs entries received → (fault : TermFault) × (takes entries received ≡ refuses fault)
not_ours entries (Unread fault) foreign = (_, refl)
not_ours entries (Read message) foreign = (_, cond-false (is_for_us entries message) _ _ foreign)

terminal_foreign : (s : TerminalState) (received : Received) (decision : Decision) (added : List TermEntry) (put : List Message) → IsNotOurs s.settled received → TerminalTasks s.settled (Takes_received received decision) added put → (action : TerminalAction) × TerminalDoes s action added put
terminal_foreign s received decision added put foreign (decided, decides, is, none) =
    let (fault, same) = not_ours s.settled received foreign in
    let decides' = subst (λ (t : Taken). Decides s.settled t.answer decision decided) same decides in
    (Hears_foreign received, (foreign, is ∙ (ap (λ (t : Taken). t.added ++ decided) same ∙ no_decision s.settled fault decision decided decides'), none))

-- an action of its own asks for its journal alone
own_does : (s : TerminalState) (action : TerminalAction) (added : List TermEntry) (put : List Message) → IsOwnTask action → TerminalDoes (terminal_with s.settled) action added put → TerminalDoes s action added put
own_does s (Begins amount account) added put own does = does
own_does s (Offline n) added put own does = does
own_does s (Gives_up n) added put own does = does
own_does s (Cancels n) added put own does = does
own_does s Closes added put own does = does
own_does s (Sends_message what moment) added put own does = does
own_does s (Takes_answer which decision) added put own does = absurd own
own_does s (Hears_foreign received) added put own does = absurd own

terminal_tasks : (s : TerminalState) (task : TerminalTask) (added : List TermEntry) (put : List Message) → TerminalIsBrought s task → TerminalTasks s.settled task added put → (action : TerminalAction) × TerminalDoes s action added put
terminal_tasks s (Does_own action) added put brought (own, does) = (action, own_does s action added put own does)
terminal_tasks s (Takes_received (Unread fault) decision) added put brought tasks = terminal_foreign s (Unread fault) decision added put tt tasks
terminal_tasks s (Takes_received (Read message) decision) added put brought tasks =
    let (decided, decides, is, none) = tasks in
    ⊎_elim (λ (which, at). (Takes_answer which decision, (message, decided, at, decides, is, none)))
    (λ foreign. terminal_foreign s (Read message) decision added put foreign tasks) brought

-- a reply to a terminal's message names its place
named_place : (entries : List HostEntry) (terminal : ℕ) (message : Message) → NamedMessage entries terminal message → place_named entries (Read message) ≡ terminal
named_place entries terminal message n = ap (λ (o : Option ℕ). place_or o (length (setup_of entries).terminals)) n.from

module _ (host : HostSettings) (all : List TerminalSettings) (match : SetUpsMatch host all) where
  host_tasks : (w : World) → NamingWorld host all w → (task : HostTask) (added : List HostEntry) (receiver : ℕ) (put : List Message) → HostIsBrought w task → HostTasks w.host.settled task added receiver put → (action : HostAction) × HostDoes w action added receiver put
  host_tasks w named (Adds_set rows) added receiver put brought tasks = (Publishes rows, tasks)
  host_tasks w named (Answers_received (Unread fault) moment) added receiver put brought (is, to, back) = (Answers_foreign (Unread fault) moment, (tt, is, to, back))
  host_tasks w named (Answers_received (Read message) moment) added receiver put brought (is, to, back) =
      ⊎_elim
      (λ (terminal, s, at, (which, sent)).
      let setup_is : setup_of w.host.settled ≡ host = ap setup_of (sym (append-nil w.host.settled)) ∙ setup_kept host all w named [] in
      let n = named_message host all w match named w.host.settled setup_is terminal s which message at sent in
      (Answers terminal which moment, (s, message, at, sent, is, to ∙ named_place w.host.settled terminal message n, back)))
      (λ foreign. (Answers_foreign (Read message) moment, (foreign, is, to, back)))
      brought

  terminal_doing : (s new : TerminalState) (event : Event TerminalTask) → TerminalDoing s event new → (step : Event TerminalAction) × TerminalStep s step new
  terminal_doing s new (Acts task) (added, put, on, brought, tasks, is) =
      let (action, does) = terminal_tasks s task added put brought tasks in (Acts action, (added, put, on, does, is))
  terminal_doing s new (Interrupted task) (added, put, on, brought, tasks, is) =
      let (action, does) = terminal_tasks s task added put brought tasks in (Interrupted action, (added, put, on, does, is))
  terminal_doing s new (Restart kept) step = (Restart kept, step)
  terminal_doing s new (Interrupted_restart kept) step = (Interrupted_restart kept, step)

  host_doing : (w new : World) → NamingWorld host all w → (event : Event HostTask) → HostDoing w event new → (step : Event HostAction) × HostStep w step new
  host_doing w new named (Acts task) (added, receiver, put, on, brought, tasks, is) =
      let (action, does) = host_tasks w named task added receiver put brought tasks in (Acts action, (added, receiver, put, on, does, is))
  host_doing w new named (Interrupted task) (added, receiver, put, on, brought, tasks, is) =
      let (action, does) = host_tasks w named task added receiver put brought tasks in (Interrupted action, (added, receiver, put, on, does, is))
  host_doing w new named (Restart kept) step = (Restart kept, step)
  host_doing w new named (Interrupted_restart kept) step = (Interrupted_restart kept, step)

  merged_from : (w new : World) (doings : List Doing) → NamingWorld host all w → MergedBytes w doings new → (more : List Happening) × Run w more new
  merged_from w new [] n is = ([], is)
  merged_from w new (By_terminal place event ∷ doings) n (before, after, at, doing, merged) =
      let (step, stepped) = terminal_doing before after event doing in
      let next : World = record { host = w.host; terminals = slice_set w.terminals place after } in
      let full : Step w (At_terminal place step) next = (before, after, at, stepped, refl) in
      let (more, run) = merged_from next new doings (step_naming host all w next (At_terminal place step) n full) merged in
      (At_terminal place step ∷ more, (next, full, run))
  merged_from w new (By_host event ∷ doings) n (next, doing, merged) =
      let (step, stepped) = host_doing w next n event doing in
      let (more, run) = merged_from next new doings (step_naming host all w next (At_host step) n stepped) merged in
      (At_host step ∷ more, (next, stepped, run))

pub merged_bytes_are_a_run : MergedBytesAreARun
merged_bytes_are_a_run host all happenings w new doings match run merged =
    merged_from host all match w new doings (run_naming host all (first host all) w happenings (first_naming host all) run) merged
