-- What is left of a host behind a line stands to the line's fate.
use Rattle.std.proofs.Common.{◌≡◌, ℕ, ◌+◌, ◌≤◌, Bool, true, false, List, [], ◌++◌, length, Option, Some, None, Ok, Err, refl, sym, ◌∙◌, ap, subst, arith, Vec, Global}
use Rattle.std.specs.Prelude.{Result, IfOk, OnOk, IsErrOf, IsSome}
use Rattle.std.proofs.lemmas.Bool.{cond-false}
use Rattle.cap_disk.specs.MemoryDisk.{told_of}
use Rattle.cap_disk.specs.declared.memory.MemoryDisk.{MemoryDisk}
use Rattle.cap_journal.specs.declared.journal.Journal.{Ghosts}
use Rattle.cap_journal.specs.File.{Has}
use Rattle.cap_msgs.specs.declared.message.Message.{Message}
use Rattle.cap_entries.specs.declared.host.HostEntry.{HostEntry}
use Rattle.cap_entries.specs.HostRecord.{host_reading}
use Rattle.cap_host.specs.declared.host.Host.{Host}
use Rattle.cap_host.specs.Host.{entries_of, has_failed}
use Rattle.cap_schedule.specs.declared.outcome.Outcome.{Outcome}
use Rattle.cap_schedule.specs.declared.outcome.Outcome.TheVariants.{WasCut}
use Rattle.cap_schedule.specs.declared.schedule.Prefix.{Prefix}
use Rattle.cap_schedule.specs.declared.schedule.Prefix.TheVariants.{Cut, Fail, CutAfter}
use Rattle.cap_world.specs.World.{HostState}
use Rattle.cap_plays.specs.declared.fault.LineFault.{LineFault}
use Rattle.cap_plays.specs.declared.fault.LineFault.TheVariants.{Disk, Memory}
use Rattle.cap_plays.specs.Turns.{HostWork, HostTurn}
use Rattle.cap_plays.specs.Plays.{Doubt, no_doubt}
use Rattle.cap_plays.specs.Texts.{IsSent}
use Rattle.cap_plays.specs.Corresponds.{EndCorresponds, HostFate, host_whole, host_cut_after, host_fate}
use Rattle.cap_plays.specs.Holding.{end_fewer}
use Rattle.cap_power.specs.Counting.{stop_behind, cuts, cuts_after, arms, outcome_of_fault}
use Rattle.cap_power.specs.Images.{images_of}
use Rattle.cap_power.specs.Prefixes.{armed_of, ended_of}
use Rattle.cap_power.specs.Standing.{Stands, IsReady}
use Rattle.cap_power.specs.declared.power.Power.{Power}
use Rattle.cap_power.specs.declared.power.Power.TheVariants.{Off}
use Rattle.cap_power.specs.declared.power.Settled.{Settled}
use Rattle.cap_host_lines.specs.declared.said.HostSaid.{HostSaid}
use Rattle.cap_host_lines.specs.Acts as line
use Rattle.cap_host_lines.specs.Acts.{host_armed, counted_replies, counts_of, LineDone}
use Rattle.cap_host_side.specs.declared.side.Done.{Done}
use Rattle.cap_host_side.specs.Sides.{Meets}
use Rattle.cap_host_side.specs.Lines.{outcome_said, reply_said, reply_kept}
use Rattle.cap_host_side.specs.Prefixes.{fate_is_armed, after_settled, after_off, after_doubt, after_outcome, after_silent}
use Rattle.cap_host_side.proofs.Ready.{behind, ready_more}

abbrev Text : Type 0
Text = Option (Vec ℕ Global)

reply_stays : (prefix : Option Prefix) (reply : Text) → cuts_after prefix ≡ false → reply_kept prefix reply ≡ reply
reply_stays None reply uncut = refl
reply_stays (Some (Cut call fill)) reply uncut = refl
reply_stays (Some (Fail call fill)) reply uncut = refl
reply_stays (Some CutAfter) reply uncut = cc

none_kept : (prefix : Option Prefix) → reply_kept prefix None ≡ None
none_kept None = refl
none_kept (Some (Cut call fill)) = refl
none_kept (Some (Fail call fill)) = refl
none_kept (Some CutAfter) = refl

-- a call is armed only where the power outlives the line's end
armed_uncut : (prefix : Option Prefix) → IsSome (armed_of prefix) → cuts_after prefix ≡ false
armed_uncut None some = refl
armed_uncut (Some (Cut call fill)) some = refl
armed_uncut (Some (Fail call fill)) some = refl
armed_uncut (Some CutAfter) some = cc

none_armed : (prefix : Option Prefix) (calls : ℕ) → arms prefix ≡ false → stop_behind prefix calls ≡ None
none_armed None calls unarmed = refl
none_armed (Some (Cut call fill)) calls unarmed = cc
none_armed (Some (Fail call fill)) calls unarmed = cc
none_armed (Some CutAfter) calls unarmed = refl

cut_armed : (prefix : Option Prefix) → cuts_after prefix ≡ true → (prefix ≡ Some CutAfter)
cut_armed None cut = cc
cut_armed (Some (Cut call fill)) cut = cc
cut_armed (Some (Fail call fill)) cut = cc
cut_armed (Some CutAfter) cut = refl

-- what is given back
abbrev given : {H : Type 0} → Settled H → Text → Done
given after reply = record { outcome = after.outcome; reply = reply }

-- over what contracts see of a host
module _ {H : Type 0} (entries : H → List HostEntry) (disk : H → MemoryDisk) (failed : H → Bool) where
  -- what settling says of a line that was answered so
  pub record Settles (prefix : Option Prefix) (end : H) (said : Result Outcome LineFault) (after : Settled H) : Type 0 where
    pub stays : cuts_after prefix ≡ false → (settled tried : List HostEntry) (is_on : Bool) (doubt : Doubt) → EndCorresponds (Has host_reading) (images_of (disk end)) true (entries end) settled tried is_on doubt
        → OnOk said (Stands (Has host_reading) entries disk after.power settled tried is_on doubt)
    pub outcome : cuts_after prefix ≡ false → IfOk said (λ outcome. after.outcome ≡ outcome)
    pub cut : cuts_after prefix ≡ true → (settled added : List HostEntry) → entries end ≡ settled ++ added → OnOk said (Stands (Has host_reading) entries disk after.power settled added false (no_doubt (length added)))
    pub was_cut : cuts_after prefix ≡ true → OnOk said (after.outcome ≡ WasCut)
    pub ready : (calls : ℕ) (stop : Option ℕ) → told_of (disk end) ≡ Some (record { calls = calls; stop = stop }) → (arms prefix ≡ false → stop ≡ None) → IsReady failed disk calls after.power
    pub broken : (list settled tried : List HostEntry) (is_on : Bool) (doubt : Doubt) → EndCorresponds (Has host_reading) (images_of (disk end)) false list settled tried is_on doubt → IsErrOf said Disk
        → Stands (Has host_reading) entries disk after.power settled tried is_on doubt
    pub off : IsErrOf said Disk → (left : MemoryDisk) × (after.power ≡ Off left)
    pub fault : IsErrOf said Disk → after.outcome ≡ outcome_of_fault (cuts prefix)
    pub memory : IsErrOf said Memory → ⊥

  -- the line was done, and the power stays
  meets_done : (prefix : Option Prefix) (fate other : HostFate) (most : ℕ) (after : Settled H) (reply : Text) → other ≡ fate → reply_kept prefix reply ≡ reply
      → Stands (Has host_reading) entries disk after.power fate.state.settled fate.state.tried fate.state.on fate.doubt → after.outcome ≡ fate.outcome → IsReady failed disk most after.power
      → IsSent reply (counted_replies fate) → Meets entries disk failed most after.power other (given after (reply_kept prefix reply))
  meets_done prefix fate other most after reply same kept stands outcome_is ready sent =
      subst (λ (f : HostFate). Meets entries disk failed most after.power f (given after (reply_kept prefix reply))) (sym same) (record {
        stands = record { stands = stands; ready = ready };
        outcome_is = outcome_is;
        reply_is = subst (λ (r : Text). IsSent r (counted_replies fate)) (sym kept) sent;
      })

  -- the power goes after the line
  meets_cut : (s : HostState) (work : Option HostWork) (outcome : Outcome) (list : List HostEntry) (most : ℕ) (after : Settled H) → list ≡ (host_whole s work outcome).state.settled
      → ((settled added : List HostEntry) → list ≡ settled ++ added → Stands (Has host_reading) entries disk after.power settled added false (no_doubt (length added)))
      → after.outcome ≡ WasCut → IsReady failed disk most after.power → Meets entries disk failed most after.power (host_cut_after s work) (given after None)
  meets_cut s work outcome list most after is cut outcome_is ready =
      let fate = host_cut_after s work in
      let stands = cut fate.state.settled fate.state.tried (is ∙ after_settled s work outcome) in record {
        stands = record {
          stands = subst (λ (b : Bool). Stands (Has host_reading) entries disk after.power fate.state.settled fate.state.tried b fate.doubt) (sym (after_off s work))
              (subst (λ (d : Doubt). Stands (Has host_reading) entries disk after.power fate.state.settled fate.state.tried false d) (sym (after_doubt s work)) stands);
          ready = ready;
        };
        outcome_is = outcome_is ∙ sym (after_outcome s work);
        reply_is = subst (λ (l : List Message). IsSent None l) (sym (after_silent s work)) tt;
      }

  off_ready : (most : ℕ) (power : Power H) (left : MemoryDisk) → power ≡ Off left → IsReady failed disk most power
  off_ready most power left is = subst (λ (p : Power H). IsReady failed disk most p) (sym is) tt

module _ {J : Type 0} {g : Ghosts J HostEntry} (disk : Host J g → MemoryDisk) where
  abbrev Fated : Option Prefix → HostState → HostTurn → HostFate
  Fated prefix s turn = host_armed (armed_of prefix) s turn (ended_of prefix)

  abbrev Met : (most : ℕ) → Option Prefix → HostState → HostTurn → Settled (Host J g) → Text → Type 0
  Met most prefix s turn after reply = Meets entries_of disk has_failed most after.power (host_fate prefix s turn) (given after reply)

  -- the disk that contracts see is that of the journal
  abbrev SeesDisk : Host J g → Type 0
  SeesDisk host = ((image : List ℕ) → images_of (disk host) image → line.images_of host image) × (told_of (disk host) ≡ counts_of host)

  ready_behind : (prefix : Option Prefix) (most calls : ℕ) (end : Host J g) (said : Result Outcome LineFault) (after : Settled (Host J g)) (fate : HostFate) (told : HostSaid)
      → SeesDisk end → calls ≤ most → line.IsDone end fate (behind prefix calls) told → Settles entries_of disk has_failed prefix end said after → IsReady has_failed disk (most + 4) after.power
  ready_behind prefix most calls end said after fate told sees few done settles =
      let counts = done.after in
      let known = settles.ready counts.calls counts.stop (sees.1 ∙ done.counts_are) (λ unarmed. done.goes_on.stop ∙ none_armed prefix calls unarmed) in
      ready_more disk has_failed counts.calls (most + 4) after.power (omega (arith, few, done.goes_on.few)) known

  -- by what the line answered
  pub line_settled : (prefix : Option Prefix) (s : HostState) (turn : HostTurn) (most calls : ℕ) (end : Host J g) (result : Result HostSaid LineFault) (after : Settled (Host J g))
      → SeesDisk end → calls ≤ most → LineDone end (Fated prefix s turn) (armed_of prefix) (ended_of prefix) (behind prefix calls) result
      → Settles entries_of disk has_failed prefix end (outcome_said result) after
      → Met (most + 4) prefix s turn after (reply_kept prefix (reply_said result))
  line_settled prefix s turn most calls end (Ok said) after sees few done settles = by_prefix (cuts_after prefix) refl
    where
      ready : IsReady has_failed disk (most + 4) after.power
      ready = ready_behind prefix most calls end (Ok said.outcome) after (Fated prefix s turn) said sees few done settles

      after_cut : (p : Option Prefix) → p ≡ Some CutAfter → line.IsDone end (Fated p s turn) (behind p calls) said → Settles entries_of disk has_failed p end (Ok said.outcome) after
          → Met (most + 4) p s turn after (reply_kept p said.reply)
      after_cut p is done settles =
          subst (λ (p : Option Prefix). line.IsDone end (Fated p s turn) (behind p calls) said → Settles entries_of disk has_failed p end (Ok said.outcome) after → Met (most + 4) p s turn after (reply_kept p said.reply)) (sym is)
          (λ done settles. meets_cut entries_of disk has_failed s turn.work turn.outcome (entries_of end) (most + 4) after (done.stands.entries_are refl) (settles.cut refl) (settles.was_cut refl) ready) done settles

      by_prefix : (b : Bool) → cuts_after prefix ≡ b → Met (most + 4) prefix s turn after (reply_kept prefix said.reply)
      by_prefix false uncut =
          let fate = Fated prefix s turn in
          let here = end_fewer (Has host_reading) (line.images_of end) (images_of (disk end)) true (entries_of end) (entries_of end) fate.state.settled fate.state.tried fate.state.on fate.doubt done.stands (λ on. refl) sees.0 in
          meets_done entries_of disk has_failed prefix fate (host_fate prefix s turn) (most + 4) after said.reply (fate_is_armed prefix s turn uncut) (reply_stays prefix said.reply uncut)
          (settles.stays uncut fate.state.settled fate.state.tried fate.state.on fate.doubt here) (settles.outcome uncut ∙ done.outcome_is) ready done.reply_is
      by_prefix true cut = after_cut prefix (cut_armed prefix cut) done settles
  line_settled prefix s turn most calls end (Err Disk) after sees few broken settles =
      let fate = Fated prefix s turn in
      let here = end_fewer (Has host_reading) (line.images_of end) (images_of (disk end)) false (entries_of end) (entries_of end) fate.state.settled fate.state.tried fate.state.on fate.doubt broken.stands (λ on. refl) sees.0 in
      let uncut = armed_uncut prefix broken.some in
      let (left, off) = settles.off refl in
      meets_done entries_of disk has_failed prefix fate (host_fate prefix s turn) (most + 4) after None (fate_is_armed prefix s turn uncut) (none_kept prefix)
      (settles.broken (entries_of end) fate.state.settled fate.state.tried fate.state.on fate.doubt here refl) (settles.fault refl ∙ broken.outcome_is)
      (off_ready entries_of disk has_failed (most + 4) after.power left off)
      (subst (λ (l : List Message). IsSent None l) (sym (cond-false fate.counts fate.replies [] broken.none_counts)) tt)
  line_settled prefix s turn most calls end (Err Memory) after sees few done settles = absurd (settles.memory refl)

  -- the same, by what the parts of the line give
  pub line_given : (prefix : Option Prefix) (s : HostState) (turn : HostTurn) (most calls : ℕ) (end : Host J g) (result : Result HostSaid LineFault) (said : Result Outcome LineFault) (reply kept : Text) (after : Settled (Host J g))
      → SeesDisk end → calls ≤ most → LineDone end (Fated prefix s turn) (armed_of prefix) (ended_of prefix) (behind prefix calls) result
      → said ≡ outcome_said result → reply ≡ reply_said result → kept ≡ reply_kept prefix reply
      → Settles entries_of disk has_failed prefix end said after → Met (most + 4) prefix s turn after kept
  line_given prefix s turn most calls end result said reply kept after sees few done said_is reply_is kept_is settles =
      subst (λ (t : Text). Met (most + 4) prefix s turn after t) (sym (kept_is ∙ ap (reply_kept prefix) reply_is))
      (line_settled prefix s turn most calls end result after sees few done (subst (λ (r : Result Outcome LineFault). Settles entries_of disk has_failed prefix end r after) said_is settles))
