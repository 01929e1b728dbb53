-- What a line of the host says follows from what its call left.
use Rattle.std.proofs.Common.{◌≡◌, ℕ, ◌+◌, ◌-◌, ◌≤◌, ◌<◌, Bool, true, false, List, [], ◌∷◌, ◌++◌, length, Option, Some, None, Ok, Err, refl, sym, ◌∙◌, ap, subst, append-nil, arith, leb-true}
use Rattle.std.specs.Prelude.{Result, IsSome, IsSomeAnd, nat_le, nat_lt, slice_get, if◌then◌else◌}
use Rattle.std.proofs.lemmas.Bool.{cond-true, cond-false, le-leb, lt-leb, lt-ltb, le-ltb}
use Rattle.std.proofs.lemmas.Bool.Decides.{nat_tests}
use Rattle.std.proofs.lemmas.Option.{none-some}
use Rattle.cap_base.specs.declared.parameters.Row.{Row}
use Rattle.cap_disk.specs.Disk.{Counts}
use Rattle.cap_journal.specs.declared.journal.Journal.{Ghosts}
use Rattle.cap_journal.specs.File.{Has}
use Rattle.cap_journal.specs.Told.{StopsWithin, StopsAt, counted}
use Rattle.cap_leaf.specs.Date.{DateParts}
use Rattle.cap_msgs.specs.declared.message.Body.{Body}
use Rattle.cap_msgs.specs.declared.message.Message.{Message}
use Rattle.cap_msgs.specs.Moment.{IsMoment}
use Rattle.cap_msgs.specs.Received.{Received, Read}
use Rattle.cap_entries.specs.declared.host.HostEntry.{HostEntry}
use Rattle.cap_entries.specs.declared.host.HostEntry.TheVariants.{Published}
use Rattle.cap_entries.specs.HostRecord.{host_reading}
use Rattle.cap_entries.specs.Log.{published}
use Rattle.cap_ledger.specs.Adding.{calls_for}
use Rattle.cap_host_answers.specs.Received.{answer_received, place_named}
use Rattle.cap_host.specs.declared.host.Host.{Host}
use Rattle.cap_host.specs.declared.publishing.PublishFault.{PublishFault}
use Rattle.cap_host.specs.declared.publishing.PublishFault.TheVariants as P
use Rattle.cap_host.specs.Host.{entries_of}
use Rattle.cap_schedule.specs.declared.outcome.Outcome.{Outcome}
use Rattle.cap_schedule.specs.declared.outcome.Outcome.TheVariants as O
use Rattle.cap_schedule.specs.declared.schedule.HostOrder.{HostOrder}
use Rattle.cap_schedule.specs.declared.schedule.HostOrder.TheVariants as W
use Rattle.cap_msgs.specs.Trees.{body_kind}
use Rattle.cap_world.specs.World.{TerminalState, HostState, Answers, Answers_foreign, Publishes}
use Rattle.cap_plays.specs.declared.fault.LineFault.{LineFault}
use Rattle.cap_plays.specs.declared.fault.LineFault.TheVariants.{Disk, Memory}
use Rattle.cap_plays.specs.Turns.{Scene, counted_at, HostWork, HostTurn, host_says, host_turn_of, answers_terminal, answers_it, answered_as, replies_with}
use Rattle.cap_plays.specs.Plays.{no_doubt, in_doubt, host_interrupted}
use Rattle.cap_plays.specs.Corresponds.{Holds, EachHas, EachHasEither, HostFate, host_stays, host_whole}
use Rattle.cap_plays.specs.Holding.{holds_settled, end_added, end_broken}
use Rattle.cap_host_lines.specs.declared.said.HostSaid.{HostSaid}
use Rattle.cap_host_lines.specs.declared.answer.Answer.{Answer}
use Rattle.cap_plays.specs.Texts.{IsSent}
use Rattle.cap_host_lines.specs.Texts.{IsAnswered, outcome_of, reply_of}
use Rattle.cap_host_lines.specs.Says.{said_counted, said_dropped, said_published}
use Rattle.cap_plays.specs.Armed.{IsArmed, GoesOn}
use Rattle.cap_host_lines.specs.Acts.{host_armed, sent_by, sent_of, images_of, IsReady, IsDone, IsBroken, LineDone, Acted, Grew, Broke, PublishedBy, HeardBy}
use Rattle.cap_host_lines.proofs.Steps.{few_calls}

-- an armed call that did not come lies beyond the calls that were made; one that came is one of them
abbrev IsNear : ℕ → Counts → Option ℕ → Type 0
IsNear n before stop = IsSomeAnd stop (λ s. (before.calls < s) × (s ≤ before.calls + n))

lies_beyond : (n c : ℕ) (before : Counts) → 1 ≤ c → StopsAt c before → (StopsWithin n before → ⊥) → n < c
lies_beyond n c before low stops past = by_test (nat_le c n) refl
  where
    within : c ≤ n → StopsWithin n before
    within le = subst (λ (s : Option ℕ). IsNear n before s) (sym stops) (omega (arith, low), omega (arith, le))

    by_test : (b : Bool) → nat_le c n ≡ b → n < c
    by_test true is = absurd (past (within (leb-true c n is)))
    by_test false is = grind (arith, nat_tests)

lies_within : (n c : ℕ) (before : Counts) → StopsAt c before → StopsWithin n before → c ≤ n
lies_within n c before stops within =
    let near : (before.calls < before.calls + c) × (before.calls + c ≤ before.calls + n) = subst (λ (s : Option ℕ). IsNear n before s) stops within in
    omega (arith, near.1)

never_comes : (n : ℕ) (before : Counts) → before.stop ≡ None → StopsWithin n before → ⊥
never_comes n before none within = subst (λ (s : Option ℕ). IsNear n before s) none within

-- a line that makes a step
abbrev turn_with : HostWork → Outcome → HostTurn
turn_with work outcome = record { work = Some work; outcome = outcome }

fate_is_whole : (armed : Option ℕ) (before : Counts) (s : HostState) (work : HostWork) (outcome ended : Outcome) → IsArmed armed before → (StopsWithin (calls_for work.added) before → ⊥)
    → host_armed armed s (turn_with work outcome) ended ≡ host_whole s (Some work) outcome
fate_is_whole None before s work outcome ended is past = refl
fate_is_whole (Some c) before s work outcome ended is past =
    cond-false (nat_le c (calls_for work.added)) _ _ (lt-leb c (calls_for work.added) (lies_beyond (calls_for work.added) c before is.0 is.1 past))

-- the line that its call ended
abbrev left_by : HostState → HostWork → (ended : Outcome) → HostFate
left_by s work ended = host_stays (host_interrupted s work) (in_doubt work.added) ended

fate_is_broken : (armed : Option ℕ) (before : Counts) (s : HostState) (work : HostWork) (outcome ended : Outcome) → IsArmed armed before → StopsWithin (calls_for work.added) before
    → IsSome armed × (host_armed armed s (turn_with work outcome) ended ≡ left_by s work ended)
fate_is_broken None before s work outcome ended is within = absurd (never_comes (calls_for work.added) before is within)
fate_is_broken (Some c) before s work outcome ended is within =
    (refl, cond-true (nat_le c (calls_for work.added)) _ _ (le-leb c (calls_for work.added) (lies_within (calls_for work.added) c before is.1 within)))

-- a line that makes no step
fate_is_still : (armed : Option ℕ) (s : HostState) (outcome ended : Outcome) → host_armed armed s (host_says outcome) ended ≡ host_stays s (no_doubt 0) outcome
fate_is_still None s outcome ended = refl
fate_is_still (Some c) s outcome ended = refl

few_counted : (added : List HostEntry) (before : Counts) → GoesOn 4 before (counted (calls_for added) before)
few_counted added before = record {
  stop = refl;
  later = let few = few_calls added in omega arith;
  few = let few = few_calls added in omega (arith, few);
}

-- a set is published
abbrev publishing : Scene → List Row → HostWork
publishing w rows = record { action = Publishes rows; added = Published (length (published w.host.settled) + 1) rows ∷ []; receiver = 0; replies = []; counts = true }

abbrev publishing_turn : Scene → List Row → HostTurn
publishing_turn w rows = turn_with (publishing w rows) (O.PublishedAs (length (published w.host.settled) + 1))

turn_publishes : (reads : List ℕ → Received) (w : Scene) (moment : ℕ) (created : DateParts) (rows : List Row) → length (published w.host.settled) < 10000
    → host_turn_of reads w moment created (W.Publish rows) ≡ publishing_turn w rows
turn_publishes reads w moment created rows few = cond-true (nat_lt (length (published w.host.settled)) 10000) _ _ (lt-ltb _ _ few)

turn_is_full : (reads : List ℕ → Received) (w : Scene) (moment : ℕ) (created : DateParts) (rows : List Row) → 10000 ≤ length (published w.host.settled)
    → host_turn_of reads w moment created (W.Publish rows) ≡ host_says O.SetLimit
turn_is_full reads w moment created rows many = cond-false (nat_lt (length (published w.host.settled)) 10000) _ _ (le-ltb _ _ many)

-- no message is there
turn_finds_none : (entries : List HostEntry) (moment : ℕ) (created : DateParts) (terminal which : ℕ) (places : List ℕ) (found : Option TerminalState) → sent_by found which ≡ None
    → answers_terminal entries moment created terminal which places found ≡ host_says (O.NoMessage which)
turn_finds_none entries moment created terminal which places None none = refl
turn_finds_none entries moment created terminal which places (Some s) none = ap (answers_it entries moment created terminal which places) none

-- a message is answered
turn_finds : (entries : List HostEntry) (moment : ℕ) (created : DateParts) (terminal which : ℕ) (places : List ℕ) (found : Option TerminalState) (message : Message) → sent_by found which ≡ Some message
    → answers_terminal entries moment created terminal which places found ≡ answers_it entries moment created terminal which places (Some message)
turn_finds entries moment created terminal which places None message there = absurd (none-some message there)
turn_finds entries moment created terminal which places (Some s) message there = ap (answers_it entries moment created terminal which places) there

-- the date of an answer, where there is one; else any of the moment
record Dated (entries : List HostEntry) (moment : ℕ) (received : Received) (body : Option Body) (given : Option Answer) : Type 0 where
  created : DateParts
  at : IsMoment moment created
  reply_is : IsSent (reply_of given) (replies_with entries created received body)
  outcome_is : (place : Option ℕ) → outcome_of place given ≡ answered_as place body

dated : (entries : List HostEntry) (moment : ℕ) (date : DateParts) (received : Received) (body : Option Body) (given : Option Answer) → IsMoment moment date → IsAnswered entries moment received body given
    → Dated entries moment received body given
dated entries moment date received None None at is = record { created = date; at = at; reply_is = tt; outcome_is = λ place. refl }
dated entries moment date received None (Some answer) at is = absurd is
dated entries moment date received (Some body) None at is = absurd is
dated entries moment date received (Some body) (Some answer) at is = record {
  created = is.created;
  at = is.is_moment;
  reply_is = is.text_is;
  outcome_is = λ place. ap (λ k. O.Answered place k answer.reason) is.kind_is ∙ ap (λ r. O.Answered place (body_kind body) r) is.reason_is;
}

abbrev delivering : Scene → (moment : ℕ) → DateParts → (terminal which : ℕ) → Message → HostWork
delivering w moment created terminal which message = record {
  action = Answers terminal (which - 1) moment;
  added = (answer_received w.host.settled (Read message)).added;
  receiver = terminal;
  replies = replies_with w.host.settled created (Read message) (answer_received w.host.settled (Read message)).reply;
  counts = true;
}

-- noise is answered, and the reply dropped
abbrev listening : Scene → (moment : ℕ) → DateParts → Received → HostWork
listening w moment created received = record {
  action = Answers_foreign received moment;
  added = (answer_received w.host.settled received).added;
  receiver = place_named w.host.settled received;
  replies = replies_with w.host.settled created received (answer_received w.host.settled received).reply;
  counts = false;
}

module _ {J : Type 0} {g : Ghosts J HostEntry} where
  done : (old new : Host J g) (s : HostState) (armed : Option ℕ) (before : Counts) (work : HostWork) (outcome ended : Outcome) (said : HostSaid)
      → IsReady old s armed before → Grew old new work.added before → said.outcome ≡ outcome → IsSent said.reply (if work.counts then work.replies else [])
      → IsDone new (host_armed armed s (turn_with work outcome) ended) before said
  done old new s armed before work outcome ended said ready grew outcome_is reply_is =
      let e : entries_of old ≡ s.settled = ready.stands.entries_are refl in
      subst (λ (f : HostFate). IsDone new f before said) (sym (fate_is_whole armed before s work outcome ended ready.is_armed grew.past)) (record {
        told = grew.told;
        works = grew.works;
        after = counted (calls_for work.added) before;
        counts_are = grew.counts_are;
        goes_on = few_counted work.added before;
        stands = end_added (Has host_reading) (images_of new) (entries_of new) s.settled work.added (grew.grown ∙ ap (λ l. l ++ work.added) e) grew.each;
        outcome_is = outcome_is;
        reply_is = reply_is;
      })

  broken : (old new : Host J g) (s : HostState) (armed : Option ℕ) (before : Counts) (work : HostWork) (outcome ended : Outcome)
      → IsReady old s armed before → Broke old new work.added before
      → IsBroken new (host_armed armed s (turn_with work outcome) ended) armed ended
  broken old new s armed before work outcome ended ready broke =
      let e : entries_of old ≡ s.settled = ready.stands.entries_are refl in
      let (some, fate) = fate_is_broken armed before s work outcome ended ready.is_armed broke.within in
      subst (λ (f : HostFate). IsBroken new f armed ended) (sym fate) (record {
        some = some;
        stands = end_broken (Has host_reading) (images_of new) (entries_of new) s.settled work.added (subst (λ l. EachHasEither (Has host_reading) (images_of new) l (l ++ work.added)) e broke.either);
        outcome_is = refl;
        none_replied = refl;
        none_counts = refl;
      })

  still : (old new : Host J g) (s : HostState) (armed : Option ℕ) (before : Counts) (outcome ended : Outcome) (said : HostSaid)
      → IsReady old s armed before → Grew old new [] before → said.outcome ≡ outcome → said.reply ≡ None
      → IsDone new (host_armed armed s (host_says outcome) ended) before said
  still old new s armed before outcome ended said ready grew outcome_is none =
      let e : entries_of new ≡ s.settled = grew.grown ∙ append-nil (entries_of old) ∙ ready.stands.entries_are refl in
      let has = holds_settled (Has host_reading) (images_of new) s.settled (subst (EachHas (Has host_reading) (images_of new)) e grew.each) in
      subst (λ (f : HostFate). IsDone new f before said) (sym (fate_is_still armed s outcome ended)) (record {
        told = grew.told;
        works = grew.works;
        after = counted 0 before;
        counts_are = grew.counts_are;
        goes_on = few_counted [] before;
        stands = record {
          on_is = ready.stands.on_is;
          entries_are = λ on. e;
          none_tried = ready.stands.none_tried;
          holds = subst (λ (l : List HostEntry). Holds (Has host_reading) (images_of new) s.settled l (no_doubt 0)) (sym (ready.stands.none_tried refl)) has;
        };
        outcome_is = outcome_is;
        reply_is = subst (λ r. IsSent r []) (sym none) tt;
      })

  -- by the turn that the line makes
  acted : (reads : List ℕ → Received) (new : Host J g) (w : Scene) (moment : ℕ) (created : DateParts) (order : HostOrder) (armed : Option ℕ) (ended : Outcome) (before : Counts) (result : Result HostSaid LineFault) (turn : HostTurn)
      → IsMoment moment created → host_turn_of reads w moment created order ≡ turn → LineDone new (host_armed armed w.host turn ended) armed ended before result
      → Acted reads new w moment order armed ended before result
  acted reads new w moment created order armed ended before result turn at is line =
      (created, at, subst (λ (t : HostTurn). LineDone new (host_armed armed w.host t ended) armed ended before result) (sym is) line)

  pub published_line : (old new : Host J g) (reads : List ℕ → Received) (w : Scene) (moment : ℕ) (created : DateParts) (rows : List Row) (armed : Option ℕ) (ended : Outcome) (before : Counts) (given : Result ℕ PublishFault)
      → IsMoment moment created → IsReady old w.host armed before → PublishedBy old new rows before given
      → Acted reads new w moment (W.Publish rows) armed ended before (said_published given)
  published_line old new reads w moment created rows armed ended before (Ok version) at ready so =
      let e : entries_of old ≡ w.host.settled = ready.stands.entries_are refl in
      let few : length (published w.host.settled) < 10000 = subst (λ (l : List HostEntry). length (published l) < 10000) e so.1 in
      let grew : Grew old new (publishing w rows).added before = subst (λ (l : List HostEntry). Grew old new (Published (length (published l) + 1) rows ∷ []) before) e so.2 in
      let is : version ≡ length (published w.host.settled) + 1 = so.0 ∙ ap (λ (l : List HostEntry). length (published l) + 1) e in
      acted reads new w moment created (W.Publish rows) armed ended before (said_published (Ok version)) (publishing_turn w rows) at (turn_publishes reads w moment created rows few)
      (done old new w.host armed before (publishing w rows) (O.PublishedAs (length (published w.host.settled) + 1)) ended (record { outcome = O.PublishedAs version; reply = None }) ready grew (ap (λ n. O.PublishedAs n) is) tt)
  published_line old new reads w moment created rows armed ended before (Err P.Disk) at ready so =
      let e : entries_of old ≡ w.host.settled = ready.stands.entries_are refl in
      let few : length (published w.host.settled) < 10000 = subst (λ (l : List HostEntry). length (published l) < 10000) e so.0 in
      let broke : Broke old new (publishing w rows).added before = subst (λ (l : List HostEntry). Broke old new (Published (length (published l) + 1) rows ∷ []) before) e so.1 in
      acted reads new w moment created (W.Publish rows) armed ended before (Err Disk) (publishing_turn w rows) at (turn_publishes reads w moment created rows few)
      (broken old new w.host armed before (publishing w rows) (O.PublishedAs (length (published w.host.settled) + 1)) ended ready broke)
  published_line old new reads w moment created rows armed ended before (Err P.SetLimit) at ready so =
      let e : entries_of old ≡ w.host.settled = ready.stands.entries_are refl in
      let many : 10000 ≤ length (published w.host.settled) = subst (λ (l : List HostEntry). 10000 ≤ length (published l)) e so.0 in
      acted reads new w moment created (W.Publish rows) armed ended before (said_published (Err P.SetLimit)) (host_says O.SetLimit) at (turn_is_full reads w moment created rows many)
      (still old new w.host armed before O.SetLimit ended (record { outcome = O.SetLimit; reply = None }) ready so.1 refl refl)
  published_line old new reads w moment created rows armed ended before (Err P.Failed) at ready so = absurd so
  published_line old new reads w moment created rows armed ended before (Err P.Memory) at ready so = (created, at, tt)

  pub missing_line : (host : Host J g) (reads : List ℕ → Received) (w : Scene) (moment : ℕ) (created : DateParts) (terminal which : ℕ) (armed : Option ℕ) (ended : Outcome) (before : Counts) (said : HostSaid)
      → IsMoment moment created → IsReady host w.host armed before → sent_of w terminal which ≡ None → Grew host host [] before → said.outcome ≡ O.NoMessage which → said.reply ≡ None
      → Acted reads host w moment (W.Up terminal which) armed ended before (Ok said)
  missing_line host reads w moment created terminal which armed ended before said at ready none grew outcome_is reply_is =
      acted reads host w moment created (W.Up terminal which) armed ended before (Ok said) (host_says (O.NoMessage which)) at
      (turn_finds_none w.host.settled moment created terminal which (counted_at w.counted terminal) (slice_get w.terminals terminal) none)
      (still host host w.host armed before (O.NoMessage which) ended said ready grew outcome_is reply_is)

  pub delivered_line : (old new : Host J g) (reads : List ℕ → Received) (w : Scene) (moment : ℕ) (date : DateParts) (terminal which : ℕ) (message : Message) (place : ℕ) (armed : Option ℕ) (ended : Outcome) (before : Counts) (given : Result (Option Answer) LineFault)
      → IsMoment moment date → IsReady old w.host armed before → sent_of w terminal which ≡ Some message → place ≡ length (counted_at w.counted terminal) + 1 → HeardBy old new moment (Read message) before given
      → Acted reads new w moment (W.Up terminal which) armed ended before (said_counted place given)
  delivered_line old new reads w moment date terminal which message place armed ended before (Ok given) at ready there counted so =
      let answers = answer_received w.host.settled (Read message) in
      let e : entries_of old ≡ w.host.settled = ready.stands.entries_are refl in
      let is : IsAnswered w.host.settled moment (Read message) answers.reply given = subst (λ (l : List HostEntry). IsAnswered l moment (Read message) (answer_received l (Read message)).reply given) e so.0 in
      let grew : Grew old new answers.added before = subst (λ (l : List HostEntry). Grew old new (answer_received l (Read message)).added before) e so.1 in
      let d = dated w.host.settled moment date (Read message) answers.reply given at is in
      let work = delivering w moment d.created terminal which message in
      let outcome = answered_as (Some (length (counted_at w.counted terminal) + 1)) answers.reply in
      acted reads new w moment d.created (W.Up terminal which) armed ended before (said_counted place (Ok given)) (turn_with work outcome) d.at
      (turn_finds w.host.settled moment d.created terminal which (counted_at w.counted terminal) (slice_get w.terminals terminal) message there)
      (done old new w.host armed before work outcome ended (record { outcome = outcome_of (Some place) given; reply = reply_of given }) ready grew
      (ap (λ (n : ℕ). outcome_of (Some n) given) counted ∙ d.outcome_is (Some (length (counted_at w.counted terminal) + 1))) d.reply_is)
  delivered_line old new reads w moment date terminal which message place armed ended before (Err Disk) at ready there counted so =
      let answers = answer_received w.host.settled (Read message) in
      let e : entries_of old ≡ w.host.settled = ready.stands.entries_are refl in
      let broke : Broke old new answers.added before = subst (λ (l : List HostEntry). Broke old new (answer_received l (Read message)).added before) e so in
      let work = delivering w moment date terminal which message in
      let outcome = answered_as (Some (length (counted_at w.counted terminal) + 1)) answers.reply in
      acted reads new w moment date (W.Up terminal which) armed ended before (Err Disk) (turn_with work outcome) at
      (turn_finds w.host.settled moment date terminal which (counted_at w.counted terminal) (slice_get w.terminals terminal) message there)
      (broken old new w.host armed before work outcome ended ready broke)
  delivered_line old new reads w moment date terminal which message place armed ended before (Err Memory) at ready there counted so = (date, at, tt)

  pub listened_line : (old new : Host J g) (reads : List ℕ → Received) (w : Scene) (moment : ℕ) (date : DateParts) (bytes : List ℕ) (armed : Option ℕ) (ended : Outcome) (before : Counts) (given : Result (Option Answer) LineFault)
      → IsMoment moment date → IsReady old w.host armed before → HeardBy old new moment (reads bytes) before given
      → Acted reads new w moment (W.Listen bytes) armed ended before (said_dropped given)
  listened_line old new reads w moment date bytes armed ended before (Ok given) at ready so =
      let answers = answer_received w.host.settled (reads bytes) in
      let e : entries_of old ≡ w.host.settled = ready.stands.entries_are refl in
      let is : IsAnswered w.host.settled moment (reads bytes) answers.reply given = subst (λ (l : List HostEntry). IsAnswered l moment (reads bytes) (answer_received l (reads bytes)).reply given) e so.0 in
      let grew : Grew old new answers.added before = subst (λ (l : List HostEntry). Grew old new (answer_received l (reads bytes)).added before) e so.1 in
      let d = dated w.host.settled moment date (reads bytes) answers.reply given at is in
      let work = listening w moment d.created (reads bytes) in
      let outcome = answered_as None answers.reply in
      acted reads new w moment d.created (W.Listen bytes) armed ended before (said_dropped (Ok given)) (turn_with work outcome) d.at refl
      (done old new w.host armed before work outcome ended (record { outcome = outcome_of None given; reply = None }) ready grew (d.outcome_is None) tt)
  listened_line old new reads w moment date bytes armed ended before (Err Disk) at ready so =
      let answers = answer_received w.host.settled (reads bytes) in
      let e : entries_of old ≡ w.host.settled = ready.stands.entries_are refl in
      let broke : Broke old new answers.added before = subst (λ (l : List HostEntry). Broke old new (answer_received l (reads bytes)).added before) e so in
      let work = listening w moment date (reads bytes) in
      let outcome = answered_as None answers.reply in
      acted reads new w moment date (W.Listen bytes) armed ended before (Err Disk) (turn_with work outcome) at refl
      (broken old new w.host armed before work outcome ended ready broke)
  listened_line old new reads w moment date bytes armed ended before (Err Memory) at ready so = (date, at, tt)
