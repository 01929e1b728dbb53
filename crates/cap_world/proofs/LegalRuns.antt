-- Journals are legal in every world.
use Rattle.std.proofs.Common.{◌≡◌, ℕ, zero, suc, ◌+◌, ◌<◌, Bool, true, List, [], ◌∷◌, ◌++◌, length, take, drop, Some, sym, ◌∙◌, ap, subst, append_assoc, append-nil, take-append-drop, arith, false, map, set, None, refl, eq-eqb, le-leb, lt-ltb, length-set}
use Rattle.std.proofs.lemmas.Bool.{and_parts, and_from, false≢true}
use Rattle.std.proofs.lemmas.List.{length-map}
use Rattle.std.proofs.lemmas.Option.{slice_get_within}
use Rattle.cap_base.specs.declared.item.Item.{Item}
use Rattle.cap_base.specs.Fits.{fits, all_fit}
use Rattle.cap_msgs.specs.declared.message.Message.{Message}
use Rattle.cap_entries.specs.Settings.{TerminalSettings, HostSettings}
use Rattle.cap_entries.specs.declared.terminal.TermEntry.{TermEntry}
use Rattle.cap_entries.specs.declared.terminal.TermEntry.TheVariants.{Setup as Term_setup, Begin, Declined, Completed, Voided, Cancelled, Closed, Acked, Part}
use Rattle.cap_entries.specs.declared.host.HostEntry.{HostEntry}
use Rattle.cap_entries.specs.declared.host.HostEntry.TheVariants.{Setup as Host_setup, Took, Published}
use Rattle.cap_entries.specs.Items.{items as items_of}
use Rattle.cap_entries.specs.Allowed.{all_allowed, is_legal}
use Rattle.cap_entries.specs.Log.{log, published, setup_of}
use Rattle.cap_entries.specs.HostAllowed.{host_allowed_after, host_allowed, all_host_allowed, is_legal_host, LegalHost}
use Rattle.cap_entries.specs.LogLaws.{log-append}
use Rattle.cap_entries.specs.AllowedLaws.{all_allowed_front, all_allowed-append}
use Rattle.cap_entries.specs.HostAllowedLaws.{all_host_allowed-append, all_host_allowed_front}
use Rattle.cap_host_answers.specs.StaysLegal.{answer_allowed}
use Rattle.cap_leaf.specs.declared.fault.Fault.{Fault}
use Rattle.cap_msgs.specs.Received.{Read, Unread}
use Rattle.cap_answering.specs.Steps.{Event, Acts, Interrupted, Restart, Interrupted_restart}
use Rattle.cap_world.specs.World.{TerminalState, World, HostAction, Answers, Answers_foreign, Publishes, HostDoes, delivered, HostStep, Happening, At_terminal, At_host, Step, started, first, Run}
use Rattle.cap_world.proofs.Lawful.{SetUp, setup_more, lawful_run, terminal_does_legal, decided_legal}
use Rattle.cap_world.specs.LegalJournals.{EveryTerminalJournalIsLegal, EveryHostJournalIsLegal, EveryTaskStaysLegal}
use Rattle.cap_world.specs.Node.{TerminalTask, Does_own, Takes_received, TerminalTasks, terminal_with}
use Rattle.cap_terminal_answers.specs.Takes.{takes}
use Rattle.cap_terminal_answers.specs.Does.{Decision, Leave, Complete, Give_up, Decline, Decides}

-- a host's journal that begins with its set-up
record HostSetUpFirst (entries : List HostEntry) (count : ℕ) : Type 0 where
  setup : HostSettings
  rest : List HostEntry
  is : entries ≡ Host_setup setup ∷ rest
  terminals : length setup.terminals ≡ count

setup_first_more : (entries more : List HostEntry) (count : ℕ) → HostSetUpFirst entries count → HostSetUpFirst (entries ++ more) count
setup_first_more entries more count u = record { setup = u.setup; rest = u.rest ++ more; is = ap (λ l. l ++ more) u.is; terminals = u.terminals }

host_allowed_from : (entries : List HostEntry) (count : ℕ) (entry : HostEntry) → HostSetUpFirst entries count → host_allowed_after entries entry ≡ true → host_allowed entries entry ≡ true
host_allowed_from entries count entry u e =
    let P : List HostEntry → Type 0 = λ l. host_allowed_after l entry ≡ true → host_allowed l entry ≡ true in
    subst P (sym u.is) (λ h. h) e

length-delivered : (terminals : List TerminalState) (receiver : ℕ) (messages : List Message) → length (delivered terminals receiver messages) ≡ length terminals
length-delivered [] receiver messages = refl
length-delivered (s ∷ terminals) zero messages = refl
length-delivered (s ∷ terminals) (suc receiver) messages = ap suc (length-delivered terminals receiver messages)

record HostLawful (w : World) : Type 0 where
  legal : all_host_allowed [] (w.host.settled ++ w.host.tried) ≡ true
  setup : HostSetUpFirst w.host.settled (length w.terminals)

host_legal_from : (entries : List HostEntry) (count : ℕ) → HostSetUpFirst entries count → all_host_allowed [] entries ≡ true → is_legal_host entries ≡ true
host_legal_from entries count u e =
    let P : List HostEntry → Type 0 = λ l. all_host_allowed [] l ≡ true → is_legal_host l ≡ true in
    subst P (sym u.is) (λ h. h) e

settled_legal : (w : World) → HostLawful w → LegalHost w.host.settled
settled_legal w l = host_legal_from w.host.settled (length w.terminals) l.setup (all_host_allowed_front [] w.host.settled w.host.tried l.legal)

host_does_legal : (w : World) → HostLawful w → (action : HostAction) (added : List HostEntry) (receiver : ℕ) (replies : List Message) → HostDoes w action added receiver replies → all_host_allowed w.host.settled added ≡ true
host_does_legal w l (Answers terminal which moment) added receiver replies (s, message, at, sent, is, to, back) =
    rw is (answer_allowed w.host.settled (Read message) (settled_legal w l))
host_does_legal w l (Answers_foreign received moment) added receiver replies (foreign, is, to, back) =
    rw is (answer_allowed w.host.settled received (settled_legal w l))
host_does_legal w l (Publishes rows) added receiver replies (lt, is, none) =
    let n = length (published w.host.settled) in
    rw is (and_from _ _ (host_allowed_from w.host.settled (length w.terminals) (Published (n + 1) rows) l.setup (and_from _ _ (eq-eqb (n + 1) (n + 1) refl) (le-leb (n + 1) 10000 (omega (arith, lt))))) refl)

-- a world with these settled and tried entries of the host, and as many terminals
host_world : (w : World) (settled more tried : List HostEntry) (on : Bool) (terminals : List TerminalState) → HostLawful w → settled ≡ w.host.settled ++ more → length terminals ≡ length w.terminals → all_host_allowed [] (settled ++ tried) ≡ true → HostLawful (record { host = record { settled = settled; tried = tried; on = on }; terminals = terminals })
host_world w settled more tried on terminals l is len legal =
    record { legal = legal; setup = rw (is, len) (setup_first_more w.host.settled more (length w.terminals) l.setup) }

host_step_lawful : (w new : World) (event : Event HostAction) → HostLawful w → HostStep w event new → HostLawful new
host_step_lawful w new (Acts action) l (added, receiver, replies, on, does, is) =
    let front = all_host_allowed_front [] w.host.settled w.host.tried l.legal in
    subst HostLawful (sym is) (host_world w _ added [] true _ l refl (length-delivered w.terminals receiver replies)
    (rw append-nil (all_host_allowed-append [] w.host.settled added front (host_does_legal w l action added receiver replies does))))
host_step_lawful w new (Interrupted action) l (added, receiver, replies, on, does, is) =
    let front = all_host_allowed_front [] w.host.settled w.host.tried l.legal in
    subst HostLawful (sym is) (host_world w _ [] added false _ l (sym (append-nil _)) refl
    (all_host_allowed-append [] w.host.settled added front (host_does_legal w l action added receiver replies does)))
host_step_lawful w new (Restart kept) l is =
    let whole : all_host_allowed [] ((w.host.settled ++ take kept w.host.tried) ++ drop kept w.host.tried) ≡ true = rw (append_assoc, take-append-drop) l.legal in
    subst HostLawful (sym is) (host_world w _ (take kept w.host.tried) [] true _ l refl refl
    (rw append-nil (all_host_allowed_front [] (w.host.settled ++ take kept w.host.tried) (drop kept w.host.tried) whole)))
host_step_lawful w new (Interrupted_restart (Some kept)) l is =
    let whole : all_host_allowed [] ((w.host.settled ++ take kept w.host.tried) ++ drop kept w.host.tried) ≡ true = rw (append_assoc, take-append-drop) l.legal in
    subst HostLawful (sym is) (host_world w _ (take kept w.host.tried) [] false _ l refl refl
    (rw append-nil (all_host_allowed_front [] (w.host.settled ++ take kept w.host.tried) (drop kept w.host.tried) whole)))
host_step_lawful w new (Interrupted_restart None) l is =
    subst HostLawful (sym is) (host_world w _ [] w.host.tried false _ l (sym (append-nil _)) refl l.legal)

step_host_lawful : (w new : World) (happening : Happening) → HostLawful w → Step w happening new → HostLawful new
step_host_lawful w new (At_host event) l step = host_step_lawful w new event l step
step_host_lawful w new (At_terminal place event) l (before, after, at, step, is) =
    let same : length (set w.terminals place after) ≡ length w.terminals = length-set w.terminals place after in
    subst HostLawful (sym is) (record { legal = l.legal; setup = rw same l.setup })

run_host_lawful : (w new : World) (happenings : List Happening) → HostLawful w → Run w happenings new → HostLawful new
run_host_lawful w new [] l is = subst HostLawful (sym is) l
run_host_lawful w new (happening ∷ happenings) l (next, step, run) = run_host_lawful next new happenings (step_host_lawful w next happening l step) run

pub every_host_journal_is_legal : EveryHostJournalIsLegal
every_host_journal_is_legal host all happenings w match run others (held, are) =
    let count : length host.terminals ≡ length (map started all) = ap length match.names ∙ (length-map all _ ∙ sym (length-map all started)) in
    let l = run_host_lawful (first host all) w happenings (record { legal = and_from _ _ match.host_rule refl; setup = record { setup = host; rest = []; is = refl; terminals = count } }) run in
    let whole : all_host_allowed [] ((w.host.settled ++ take held w.host.tried) ++ drop held w.host.tried) ≡ true = rw (append_assoc, take-append-drop) l.legal in
    rw are (host_legal_from (w.host.settled ++ take held w.host.tried) (length w.terminals) (setup_first_more w.host.settled (take held w.host.tried) (length w.terminals) l.setup)
    (all_host_allowed_front [] (w.host.settled ++ take held w.host.tried) (drop held w.host.tried) whole))

legal_from : (entries : List TermEntry) → SetUp entries → all_allowed [] entries ≡ true → is_legal entries ≡ true
legal_from entries u e =
    let P : List TermEntry → Type 0 = λ l. all_allowed [] l ≡ true → is_legal l ≡ true in
    subst P (sym u.is) (λ h. h) e

pub every_terminal_journal_is_legal : EveryTerminalJournalIsLegal
every_terminal_journal_is_legal host setups happenings w match run place s at entries (kept, is) =
    let l = (lawful_run host setups happenings w match run).terminals place s at in
    let whole : all_allowed [] ((s.settled ++ take kept s.tried) ++ drop kept s.tried) ≡ true = rw (append_assoc, take-append-drop) l.legal in
    rw is (legal_from (s.settled ++ take kept s.tried) (setup_more s.settled (take kept s.tried) l.setup) (all_allowed_front [] (s.settled ++ take kept s.tried) (drop kept s.tried) whole))

-- a legal journal begins with its set-up
setup_of_legal : (entries : List TermEntry) → is_legal entries ≡ true → SetUp entries
setup_of_legal [] legal = absurd (false≢true legal)
setup_of_legal (Term_setup settings ∷ rest) legal = record { settings = settings; rest = rest; is = refl }
setup_of_legal (Begin n amount account ∷ rest) legal = absurd (false≢true legal)
setup_of_legal (Declined n ∷ rest) legal = absurd (false≢true legal)
setup_of_legal (Completed n code ∷ rest) legal = absurd (false≢true legal)
setup_of_legal (Voided n ∷ rest) legal = absurd (false≢true legal)
setup_of_legal (Cancelled n ∷ rest) legal = absurd (false≢true legal)
setup_of_legal (Closed p ∷ rest) legal = absurd (false≢true legal)
setup_of_legal (Acked m ∷ rest) legal = absurd (false≢true legal)
setup_of_legal (Part part ∷ rest) legal = absurd (false≢true legal)

all_of_legal : (entries : List TermEntry) → is_legal entries ≡ true → all_allowed [] entries ≡ true
all_of_legal [] legal = refl
all_of_legal (entry ∷ rest) legal = legal

-- bytes that are no message add nothing
nothing_decided : (entries : List TermEntry) (fault : Fault) (decision : Decision) (decided : List TermEntry) → Decides entries (takes entries (Unread fault)).answer decision decided → decided ≡ []
nothing_decided entries fault Leave decided is = is
nothing_decided entries fault Complete decided (given, answer, a, p, is) = absurd (let none : ⊥ = cc in none)
nothing_decided entries fault Give_up decided (given, answer, a, p, is) = absurd (let none : ⊥ = cc in none)
nothing_decided entries fault Decline decided (given, answer, a, p, is) = absurd (let none : ⊥ = cc in none)

task_allowed : (entries : List TermEntry) (task : TerminalTask) (added : List TermEntry) (put : List Message) → SetUp entries → TerminalTasks entries task added put → all_allowed entries added ≡ true
task_allowed entries (Does_own action) added put u (own, does) = terminal_does_legal (terminal_with entries) u action added put does
task_allowed entries (Takes_received (Read message) decision) added put u (decided, decides, is, none) = rw is (decided_legal entries message decision decided u decides)
task_allowed entries (Takes_received (Unread fault) decision) added put u (decided, decides, is, none) = rw (is, nothing_decided entries fault decision decided decides) refl

pub every_task_stays_legal : EveryTaskStaysLegal
every_task_stays_legal entries task added put kept legal does =
    let u = setup_of_legal entries legal in
    let allowed = task_allowed entries task added put u does in
    let front : all_allowed entries (take kept added) ≡ true = all_allowed_front entries (take kept added) (drop kept added) (ap (λ l. all_allowed entries l) (take-append-drop kept added) ∙ allowed) in
    legal_from (entries ++ take kept added) (setup_more entries (take kept added) u) (all_allowed-append [] entries (take kept added) (all_of_legal entries legal) front)
