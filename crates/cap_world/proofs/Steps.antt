-- Each step keeps the invariant, and the ends agree in every world.
use Rattle.std.proofs.Common.{◌≡◌, ℕ, ◌≤◌, Bool, true, List, [], ◌∷◌, ◌++◌, length, take, Some, sym, ◌∙◌, ap, subst, append-nil, length-drop, arith, false, map, Option, None, refl, ⊎_elim}
use Rattle.std.specs.Prelude.{slice_get}
use Rattle.std.specs.List.{AllByRecursion}
use Rattle.std.proofs.lemmas.Bool.{cases_eq}
use Rattle.std.proofs.lemmas.Option.{same_Some}
use Rattle.cap_base.specs.declared.item.Item.{Item}
use Rattle.cap_base.specs.Captured.{captured, totals}
use Rattle.cap_base.specs.Fits.{all_fit}
use Rattle.cap_msgs.specs.declared.message.Body.{Body}
use Rattle.cap_msgs.specs.declared.message.Message.{Message}
use Rattle.cap_msgs.specs.Received.{Received, Read}
use Rattle.cap_msgs.specs.Report.{report_of}
use Rattle.cap_msgs.specs.Reply.{Reply, Rejects, reply_of, reply_item}
use Rattle.cap_entries.specs.Settings.{TerminalSettings, HostSettings}
use Rattle.cap_entries.specs.declared.terminal.TermEntry.{TermEntry}
use Rattle.cap_entries.specs.declared.host.HostEntry.{HostEntry}
use Rattle.cap_entries.specs.declared.host.HostEntry.TheVariants.{Took}
use Rattle.cap_entries.specs.Items.{items as items_of}
use Rattle.cap_entries.specs.Acked.{acked}
use Rattle.cap_entries.specs.Log.{log, setup_of}
use Rattle.cap_entries.specs.Fronts.{IsPrefixOf, prefix_refl, prefix_trans, prefix_length, prefix_whole}
use Rattle.cap_entries.specs.ItemsLaws.{items_grow}
use Rattle.cap_entries.specs.LogLaws.{log-append, log_grow, log_kept}
use Rattle.cap_entries.specs.FitsLaws.{all_fit-append, all_fit_front}
use Rattle.cap_plain.specs.Queue.{queue}
use Rattle.cap_plain.specs.Agreed.{Agreed}
use Rattle.cap_plain.specs.KeptLaws.{captured_items}
use Rattle.cap_plain.specs.Once.{one_end, one_cancel, one_close}
use Rattle.cap_host_answers.specs.Answer.{Answered, answer_of}
use Rattle.cap_host_answers.specs.Received.{answer_received, number_of, Replies}
use Rattle.cap_answering.specs.Steps.{Event, Acts, Interrupted, Restart, Interrupted_restart}
use Rattle.cap_world.specs.World.{TerminalState, HostState, World, TerminalAction, TerminalStep, HostAction, Answers, Answers_foreign, Publishes, HostDoes, HostStep, Happening, At_terminal, At_host, Step, first, Run, May}
use Rattle.cap_entries.specs.SetUps.{SetUpsMatch}
use Rattle.cap_world.proofs.Named.{all_append, all_front, all_kept, all_at, all_weaker, answered_by, delivered_cases, set_cases, NamingWorld, step_naming, started_cases, first_naming, setup_kept, named_message}
use Rattle.cap_world.proofs.Sound.{AckWithin, ack_more, acked_from_within, AnswerOk, answer_more, SentOk, sent_more, is_taken_up, Sound, restarted, terminal_does_sound}
use Rattle.cap_world.proofs.HostSound.{ReplyOk, answer_sound, log-took, log-took_other}
use Rattle.cap_world.proofs.Parties.{received_is, RejectedOnly, foreign_is_rejected, rejection_reply}
use Rattle.cap_world.specs.Agreement.{EveryRunAgrees}

terminal_step_sound : (host : HostState) (place : ℕ) (s new : TerminalState) (event : Event TerminalAction) → Sound host place s → TerminalStep s event new → Sound host place new
terminal_step_sound host place s new (Acts action) sound (added, sent, on, does, is) =
    let n = length (log host.settled place) in
    let d = terminal_does_sound s n (all_front (AckWithin n) s.settled s.tried sound.acks) sound.answers action added sent does in
    let grown = items_grow s.settled added in
    subst (Sound host place) (sym is) (record {
      front = prefix_trans _ _ _ sound.front grown;
      acks = rw append-nil (all_append (AckWithin n) s.settled added (all_front (AckWithin n) s.settled s.tried sound.acks) d.acks);
      sent = all_append (SentOk (items_of (s.settled ++ added)) n) s.sent sent
          (all_weaker _ _ (sent_more _ _ n n grown (omega arith)) s.sent sound.sent)
          (all_weaker _ _ (sent_more _ _ n n grown (omega arith)) sent d.messages);
      answers = sound.answers;
    })
terminal_step_sound host place s new (Interrupted action) sound (added, sent, on, does, is) =
    let n = length (log host.settled place) in
    let d = terminal_does_sound s n (all_front (AckWithin n) s.settled s.tried sound.acks) sound.answers action added sent does in
    subst (Sound host place) (sym is) (record {
      front = sound.front;
      acks = all_append (AckWithin n) s.settled added (all_front (AckWithin n) s.settled s.tried sound.acks) d.acks;
      sent = sound.sent;
      answers = sound.answers;
    })
terminal_step_sound host place s new (Restart kept) sound is = subst (Sound host place) (sym is) (restarted host place s kept true sound)
terminal_step_sound host place s new (Interrupted_restart (Some kept)) sound is = subst (Sound host place) (sym is) (restarted host place s kept false sound)
terminal_step_sound host place s new (Interrupted_restart None) sound is =
    subst (Sound host place) (sym is) (record { front = sound.front; acks = sound.acks; sent = sound.sent; answers = sound.answers })

-- the host has more, and still no more than the terminal
pub host_moves : (host after : HostState) (place : ℕ) (s : TerminalState) → Sound host place s → IsPrefixOf (log host.settled place) (log after.settled place) → IsPrefixOf (log (after.settled ++ after.tried) place) (items_of s.settled) → Sound after place s
host_moves host after place s sound grown front =
    let n = length (log host.settled place) in
    let m = length (log after.settled place) in
    let le : n ≤ m = prefix_length _ _ grown in
    record {
      front = front;
      acks = all_weaker (AckWithin n) (AckWithin m) (ack_more n m le) (s.settled ++ s.tried) sound.acks;
      sent = all_weaker _ _ (sent_more _ _ n m (prefix_refl (items_of s.settled)) le) s.sent sound.sent;
      answers = all_weaker _ _ (answer_more n m le) s.answers sound.answers;
    }

pub gets_answers : (host : HostState) (place : ℕ) (s : TerminalState) (messages : List Message) → Sound host place s → AllByRecursion (AnswerOk (length (log host.settled place))) messages → Sound host place (answered_by s messages)
gets_answers host place s messages sound ok =
    record { front = sound.front; acks = sound.acks; sent = sound.sent; answers = all_append _ s.answers messages sound.answers ok }

-- what holds in every world
pub record Invariant (host : HostSettings) (all : List TerminalSettings) (w : World) : Type 0 where
  pub match : SetUpsMatch host all
  pub naming : NamingWorld host all w
  pub fit : (place : ℕ) → all_fit [] (log (w.host.settled ++ w.host.tried) place) ≡ true
  pub terminals : (place : ℕ) (s : TerminalState) → slice_get w.terminals place ≡ Some s → Sound w.host place s

-- what an action of the host adds and sends
pub record HostDoesSoundly (w : World) (added : List HostEntry) (receiver : ℕ) (replies : List Message) : Type 0 where
  pub front : (place : ℕ) (s : TerminalState) → slice_get w.terminals place ≡ Some s → IsPrefixOf (log (w.host.settled ++ added) place) (items_of s.settled)
  pub fit : (place : ℕ) → all_fit [] (log (w.host.settled ++ added) place) ≡ true
  pub acknowledged : AllByRecursion (AnswerOk (length (log (w.host.settled ++ added) receiver))) replies

module _ (host : HostSettings) (all : List TerminalSettings) where
  fit_settled : (w : World) → Invariant host all w → (place : ℕ) → all_fit [] (log w.host.settled place) ≡ true
  fit_settled w inv place = all_fit_front [] (log w.host.settled place) (log w.host.tried place) (rw log-append at (inv.fit place))

  pub front_settled : (w : World) → Invariant host all w → (place : ℕ) (s : TerminalState) → slice_get w.terminals place ≡ Some s → IsPrefixOf (log w.host.settled place) (items_of s.settled)
  front_settled w inv place s at = prefix_trans _ _ _ (log_grow w.host.settled w.host.tried place) (inv.terminals place s at).front

  -- what a terminal sent is in order, and is answered by its place
  pub sent_ok : (w : World) → Invariant host all w → (terminal : ℕ) (s : TerminalState) (which : ℕ) (message : Message) → slice_get w.terminals terminal ≡ Some s → slice_get s.sent which ≡ Some message → SentOk (items_of s.settled) (length (log w.host.settled terminal)) message
  sent_ok w inv terminal s which message at sent =
      all_at (SentOk (items_of s.settled) (length (log w.host.settled terminal))) s.sent which message sent (inv.terminals terminal s at).sent

  pub answered_is : (w : World) → Invariant host all w → (entries : List HostEntry) → setup_of entries ≡ host → (terminal : ℕ) (s : TerminalState) (which : ℕ) (message : Message) → slice_get w.terminals terminal ≡ Some s → slice_get s.sent which ≡ Some message → answer_received entries (Read message) ≡ answer_of entries terminal message.header.exchange message.body
  answered_is w inv entries setup_is terminal s which message at sent =
      let ok = sent_ok w inv terminal s which message at sent in
      received_is entries message terminal (is_taken_up _ _ message.header.exchange (report_of message.body) ok)
      (named_message host all w inv.match inv.naming entries setup_is terminal s which message at sent)

  pub setup_settled : (w : World) → Invariant host all w → setup_of w.host.settled ≡ host
  setup_settled w inv = ap setup_of (sym (append-nil w.host.settled)) ∙ setup_kept host all w inv.naming []

  -- an action that adds to no log
  quiet : (w : World) (added : List HostEntry) (receiver : ℕ) (replies : List Message) → Invariant host all w → ((place : ℕ) → log added place ≡ []) → ((n : ℕ) → AllByRecursion (AnswerOk n) replies) → HostDoesSoundly w added receiver replies
  quiet w added receiver replies inv none ok =
      let same : (place : ℕ) → log (w.host.settled ++ added) place ≡ log w.host.settled place = λ place. log-append w.host.settled added place ∙ (ap (λ l. log w.host.settled place ++ l) (none place) ∙ append-nil _) in
      record {
        front = λ place s at. rw (same place) (front_settled w inv place s at);
        fit = λ place. rw (same place) (fit_settled w inv place);
        acknowledged = ok (length (log (w.host.settled ++ added) receiver));
      }

  replies_ok : (entries : List HostEntry) (n moment : ℕ) (received : Received) (reply : Option Body) (messages : List Message) → ReplyOk n (number_of received) reply → Replies entries moment received reply messages → AllByRecursion (AnswerOk n) messages
  replies_ok entries n moment received None messages p is = rw is tt
  replies_ok entries n moment received (Some body) messages p (created, at, is) = rw is (p, tt)

  rejection_ok : (n number : ℕ) (reply : Option Body) → RejectedOnly reply → ReplyOk n number reply
  rejection_ok n number None p = tt
  rejection_ok n number (Some body) (management, refused, is) =
      let none : reply_of body ≡ Rejects refused.reason = ap reply_of is ∙ rejection_reply management refused in
      subst (λ (r : Reply). reply_item number r ≤ n) (sym none) (omega arith)

  pub host_does_sound : (w : World) → Invariant host all w → (action : HostAction) (added : List HostEntry) (receiver : ℕ) (replies : List Message) → HostDoes w action added receiver replies → HostDoesSoundly w added receiver replies
  host_does_sound w inv (Answers terminal which moment) added receiver replies (s, message, at, sent, is, to, back) =
      let sound = inv.terminals terminal s at in
      let own = log w.host.settled terminal in
      let ok = sent_ok w inv terminal s which message at sent in
      let same_answer = answered_is w inv w.host.settled (setup_settled w inv) terminal s which message at sent in
      let answered = answer_sound w.host.settled terminal (items_of s.settled) message (front_settled w inv terminal s at) ok in
      let e : added ≡ map (Took terminal) answered.new = is ∙ (ap (λ (a : Answered). a.added) same_answer ∙ answered.added) in
      let mine : log (w.host.settled ++ added) terminal ≡ own ++ answered.new =
      log-append w.host.settled added terminal ∙ ap (λ l. own ++ l) (ap (λ l. log l terminal) e ∙ log-took terminal answered.new) in
      let others : (place : ℕ) → (place ≡ terminal → ⊥) → log (w.host.settled ++ added) place ≡ log w.host.settled place =
      λ place ne. log-append w.host.settled added place ∙ (ap (λ l. log w.host.settled place ++ l) (ap (λ l. log l place) e ∙ log-took_other terminal place ne answered.new) ∙ append-nil _) in
      let back' : Replies w.host.settled moment (Read message) (answer_of w.host.settled terminal message.header.exchange message.body).reply replies =
      subst (λ (a : Answered). Replies w.host.settled moment (Read message) a.reply replies) same_answer back in
      record {
        front = λ place t here.
            ⊎_elim
            (λ (same : place ≡ terminal).
            let here' : slice_get w.terminals terminal ≡ Some t = subst (λ k. slice_get w.terminals k ≡ Some t) same here in
            let is' : t ≡ s = same_Some t s (sym here' ∙ at) in
            rw (same, is', mine) answered.front)
            (λ ne. rw (others place ne) (front_settled w inv place t here))
            (cases_eq place terminal);
        fit = λ place.
            ⊎_elim
            (λ (same : place ≡ terminal). rw (same, mine) (all_fit-append [] own answered.new (fit_settled w inv terminal) answered.fit))
            (λ ne. rw (others place ne) (fit_settled w inv place))
            (cases_eq place terminal);
        acknowledged = rw (to, mine) (replies_ok w.host.settled (length (own ++ answered.new)) moment (Read message) _ replies answered.reply back');
      }
  host_does_sound w inv (Answers_foreign received moment) added receiver replies (foreign, is, to, back) =
      let r = foreign_is_rejected w.host.settled received foreign in
      let none : added ≡ [] = is ∙ r.added in
      quiet w added receiver replies inv (λ place. rw none refl)
      (λ n. replies_ok w.host.settled n moment received (answer_received w.host.settled received).reply replies (rejection_ok n (number_of received) (answer_received w.host.settled received).reply r.reply) back)
  host_does_sound w inv (Publishes rows) added receiver replies (lt, is, none) =
      quiet w added receiver replies inv (λ place. rw is refl) (λ n. rw none tt)

  fit_of_front : (xs ys : List Item) → IsPrefixOf xs ys → all_fit [] ys ≡ true → all_fit [] xs ≡ true
  fit_of_front xs ys p e = all_fit_front [] xs p.0 (rw p.1 e)

  host_restarted : (w : World) (kept : ℕ) (on : Bool) (named : NamingWorld host all (record { host = record { settled = w.host.settled ++ take kept w.host.tried; tried = []; on = on }; terminals = w.terminals })) → Invariant host all w → Invariant host all (record { host = record { settled = w.host.settled ++ take kept w.host.tried; tried = []; on = on }; terminals = w.terminals })
  host_restarted w kept on named inv =
      record {
        match = inv.match;
        naming = named;
        fit = λ place. rw append-nil (fit_of_front _ _ (log_kept w.host.settled w.host.tried kept place) (inv.fit place));
        terminals = λ place s at.
            host_moves w.host _ place s (inv.terminals place s at) (log_grow w.host.settled (take kept w.host.tried) place)
            (rw append-nil (prefix_trans _ _ _ (log_kept w.host.settled w.host.tried kept place) (inv.terminals place s at).front));
      }

  host_step_sound : (w new : World) (event : Event HostAction) → Invariant host all w → NamingWorld host all new → HostStep w event new → Invariant host all new
  host_step_sound w new (Acts action) inv named (added, receiver, replies, on, does, is) =
      let d = host_does_sound w inv action added receiver replies does in
      let after : HostState = record { settled = w.host.settled ++ added; tried = []; on = true } in
      let moved : (place : ℕ) (s : TerminalState) → slice_get w.terminals place ≡ Some s → Sound after place s =
      λ place s at. host_moves w.host after place s (inv.terminals place s at) (log_grow w.host.settled added place) (rw append-nil (d.front place s at)) in
      subst (Invariant host all) (sym is) (record {
        match = inv.match;
        naming = subst (NamingWorld host all) is named;
        fit = λ place. rw append-nil (d.fit place);
        terminals = λ place t at.
            let (s, was, cases) = delivered_cases w.terminals receiver place replies t at in
            ⊎_elim
            (λ (same, is'). subst (Sound after place) (sym is') (gets_answers after place s replies (moved place s was) (rw same d.acknowledged)))
            (λ is'. subst (Sound after place) (sym is') (moved place s was))
            cases;
      })
  host_step_sound w new (Interrupted action) inv named (added, receiver, replies, on, does, is) =
      let d = host_does_sound w inv action added receiver replies does in
      subst (Invariant host all) (sym is) (record {
        match = inv.match;
        naming = subst (NamingWorld host all) is named;
        fit = d.fit;
        terminals = λ place s at. host_moves w.host _ place s (inv.terminals place s at) (prefix_refl _) (d.front place s at);
      })
  host_step_sound w new (Restart kept) inv named is = subst (Invariant host all) (sym is) (host_restarted w kept true (subst (NamingWorld host all) is named) inv)
  host_step_sound w new (Interrupted_restart (Some kept)) inv named is = subst (Invariant host all) (sym is) (host_restarted w kept false (subst (NamingWorld host all) is named) inv)
  host_step_sound w new (Interrupted_restart None) inv named is =
      subst (Invariant host all) (sym is) (record {
        match = inv.match;
        naming = subst (NamingWorld host all) is named;
        fit = inv.fit;
        terminals = λ place s at. host_moves w.host _ place s (inv.terminals place s at) (prefix_refl _) (inv.terminals place s at).front;
      })

  pub step_sound : (w new : World) (happening : Happening) → Invariant host all w → Step w happening new → Invariant host all new
  step_sound w new (At_host event) inv step = host_step_sound w new event inv (step_naming host all w new (At_host event) inv.naming step) step
  step_sound w new (At_terminal place event) inv (before, after, at, step, is) =
      subst (Invariant host all) (sym is) (record {
        match = inv.match;
        naming = subst (NamingWorld host all) is (step_naming host all w new (At_terminal place event) inv.naming (before, after, at, step, is));
        fit = inv.fit;
        terminals = λ other t here.
            ⊎_elim
            (λ (same, is'). rw (same, is') (terminal_step_sound w.host place before after event (inv.terminals place before at) step))
            (λ was. inv.terminals other t was)
            (set_cases w.terminals place other after t here);
      })

  pub run_sound : (w new : World) (happenings : List Happening) → Invariant host all w → Run w happenings new → Invariant host all new
  run_sound w new [] inv is = subst (Invariant host all) (sym is) inv
  run_sound w new (happening ∷ happenings) inv (next, step, run) = run_sound next new happenings (step_sound w next happening inv step) run

  pub first_sound : SetUpsMatch host all → Invariant host all (first host all)
  first_sound match =
      record {
        match = match;
        naming = first_naming host all;
        fit = λ place. refl;
        terminals = λ place s at.
            let (settings, there, is) = started_cases all place s at in
            subst (Sound _ place) (sym is) (record { front = ([], refl); acks = (tt, tt); sent = tt; answers = tt });
      }

  -- what the invariant says of whatever a power cut may have left
  pub agreed : (w : World) → Invariant host all w → (place : ℕ) (s : TerminalState) → slice_get w.terminals place ≡ Some s → (entries : List TermEntry) → May s.settled s.tried entries → (others : List HostEntry) → May w.host.settled w.host.tried others → Agreed entries (log others place)
  agreed w inv place s at entries (kept, is) others (held, are) =
      let sound = inv.terminals place s at in
      let n = length (log w.host.settled place) in
      let front : IsPrefixOf (log others place) (items_of entries) =
      rw (is, are) (prefix_trans _ _ _ (log_kept w.host.settled w.host.tried held place) (prefix_trans _ _ _ sound.front (items_grow s.settled (take kept s.tried)))) in
      let fit : all_fit [] (log others place) ≡ true =
      rw are (fit_of_front _ _ (log_kept w.host.settled w.host.tried held place) (inv.fit place)) in
      let acks : acked entries ≤ n =
      acked_from_within n 0 entries (omega arith) (rw is (all_kept (AckWithin n) s.settled s.tried kept sound.acks)) in
      let more : n ≤ length (log others place) = rw are (prefix_length _ _ (log_grow w.host.settled (take held w.host.tried) place)) in
      let reached : acked entries ≤ length (log others place) = omega arith in
      let whole : queue entries ≡ [] → log others place ≡ items_of entries =
      λ empty. prefix_whole _ _ front (omega (arith, length-drop (acked entries) (items_of entries), ap length empty)) in
      record {
        front = front;
        one_end = one_end (log others place) fit;
        one_cancel = one_cancel (log others place) fit;
        one_close = one_close (log others place) fit;
        reached = reached;
        capture = λ empty. ap captured (whole empty) ∙ captured_items entries;
        periods = λ empty p. ap (λ l. totals l p) (whole empty);
      }

pub run_invariant : (host : HostSettings) (all : List TerminalSettings) (happenings : List Happening) (w : World) → SetUpsMatch host all → Run (first host all) happenings w → Invariant host all w
run_invariant host all happenings w match run = run_sound host all (first host all) w happenings (first_sound host all match) run

pub every_run_agrees : EveryRunAgrees
every_run_agrees host all happenings w match run = agreed host all w (run_invariant host all happenings w match run)
