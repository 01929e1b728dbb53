-- What follows a connection.
use Rattle.std.proofs.Common.{◌≡◌, ◌⊎◌, ℕ, ◌≤◌, List, [], ◌∷◌, ◌++◌, map, take, Bool, true, false, IsTrue, Option, Result, Err, refl, sym, subst, arith}
use Rattle.std.specs.List.{AllByRecursion}
use Rattle.std.proofs.lemmas.Bool.{false≢true}
use Rattle.std.proofs.lemmas.List.{append-nil}
use Rattle.cap_base.specs.Causes.{Rose}
use Rattle.cap_frame.specs.Frame.{frames_of}
use Rattle.cap_link.specs.Lines.{Lines, Exchanges}
use Rattle.cap_answering.specs.declared.reply.Reply.{Reply}
use Rattle.cap_answering.specs.Steps.{EndState, working, Holds, Steps, steps_more}
use Rattle.cap_drive.specs.declared.closing.Closing.TheVariants.{Disk}
use Rattle.cap_drive.specs.declared.serve.ServeEnd.{ServeEnd}
use Rattle.cap_drive.specs.declared.serve.ServeEnd.TheVariants.{Disk as Ends_disk, Memory as Ends_memory}
use Rattle.cap_drive.specs.Counted.{rose_more, rose_later}
use Rattle.cap_drive.specs.Frames.{replies_of, IsTold, Does, Tries}
use Rattle.cap_drive.specs.Connections.{Ending, At_disk, Shut, Connection, last_events, last_moment, IsServed, IsEmptied}
use Rattle.cap_drive.specs.Going.{act_of, moment_of}
use Rattle.cap_drive.specs.Closings.{Made, ToDisk}
use Rattle.cap_drive.specs.Passing.{GoesOn, BreaksIn}
use Rattle.cap_drive.proofs.Pieces.{all_append}

pub rose_later_so : (a b c : ℕ) → Rose a b → b ≤ c → Rose a c
rose_later_so a b c rose later = omega (arith, rose, later)

-- where each image has exactly the entries, an end that is on holds them
pub holds_now : {E : Type 0} (has : List ℕ → List E → Type 0) (images : List ℕ → Type 0) (entries : List E) → ((image : List ℕ) → images image → has image entries) → Holds has images (working entries)
holds_now {E} has images entries all = λ image left. (0, subst (λ (l : List E). has image l) (sym (append-nil entries)) (all image left))

module _ {E : Type 0} (known readable : Bool) (adds : List E → ℕ → List ℕ → List E → Type 0) (replies : List E → ℕ → List ℕ → Reply → Type 0) (told : Option ℕ) (tells : Bool) where
  -- the link was closed behind it, which changes nothing
  pub disk_shut : (has : List ℕ → List E → Type 0) (is_allowed : List E → Type 0) (images : List ℕ → Type 0) (old : List E) (before after last : Lines) (replied : ℕ) → last ≡ after
      → ToDisk known readable adds replies told tells has is_allowed images old before after replied → ToDisk known readable adds replies told tells has is_allowed images old before last replied
  disk_shut has is_allowed images old before after last replied same x =
      subst (λ (l : Lines). ToDisk known readable adds replies told tells has is_allowed images old before l replied) (sym same) x

  module _ (has : List ℕ → List E → Type 0) (is_allowed : List E → Type 0) (images : List ℕ → Type 0) (old : List E) (before after : Lines) (replied : ℕ)
      (x : ToDisk known readable adds replies told tells has is_allowed images old before after replied) where
    made_with : (ending : Ending) (new : EndState E) → Steps known (Does readable adds replies) (Tries readable adds replies) (working x.middle) (last_events ending) new
        → (let c : Connection = record { answered = x.answered; ending = ending; taken = x.taken; put = frames_of (replies_of x.answered) ++ [] } in
        last_moment ending ≡ x.tried.moment ∷ [] → (served : IsServed c) → (IsTrue tells → IsEmptied ending after)
        → Made known readable adds replies told tells c old new before after replied)
    made_with ending new steps one served emptied = record {
      served = served;
      steps = steps_more known (Does readable adds replies) (Tries readable adds replies) (working old) (working x.middle) new (map act_of x.answered) (last_events ending) x.steps steps;
      moments = all_append (IsTold told) (map moment_of x.answered) (last_moment ending) x.moments (subst (λ (l : List ℕ). AllByRecursion (IsTold told) l) (sym one) (x.tried.is_told, tt));
      exchanged = λ can. subst (λ (l : List ℕ). Exchanges x.taken l before after) (sym (append-nil (frames_of (replies_of x.answered)))) (x.exchanged can);
      emptied = emptied;
      counted = x.counted;
    }

    -- the state in which the fault left the end
    abbrev tried_so : EndState E
    tried_so = record { settled = x.middle; tried = x.tried.added; on = false }

    -- opened again, with a front of what was tried
    reopened : (kept : ℕ) (entries : List E) → (IsTrue known → entries ≡ x.middle ++ take kept x.tried.added)
        → Made known readable adds replies told tells (record { answered = x.answered; ending = At_disk x.tried.moment x.body kept; taken = x.taken; put = frames_of (replies_of x.answered) ++ [] }) old (working entries) before after replied
    reopened kept entries stand =
        made_with (At_disk x.tried.moment x.body kept) (working entries) (tried_so, (x.tried.added, refl, x.tried.tries, refl), (working entries, (stand, refl), refl)) refl
        (record { frames = (x.more, x.joined, x.sizes); few = x.few; part = []; put = refl; last = refl }) (λ _. tt)

    -- which front it is
    kept_of : (k : Bool) (entries : List E) → (k ≡ true → (kept : ℕ) × (entries ≡ x.middle ++ take kept x.tried.added)) → (kept : ℕ) × (k ≡ true → entries ≡ x.middle ++ take kept x.tried.added)
    kept_of true entries stand = let s = stand refl in (s.0, λ _. s.1)
    kept_of false entries stand = (0, λ e. absurd (false≢true e))

    pub goes_reopened : (entries : List E) (a b c d : ℕ) → a ≤ b → Rose c d
        → ((image : List ℕ) (list other : List E) → has image list → has image other → list ≡ other)
        → (IsTrue known → (image : List ℕ) × images image × has image entries)
        → GoesOn known readable adds replies told tells Disk replied old entries before after a b c d
    goes_reopened entries a b c d line rose one opened =
        let front : IsTrue known → (kept : ℕ) × (entries ≡ x.middle ++ take kept x.tried.added) = λ can.
        let o = opened can in
        let f = x.tried.left can o.0 o.1 in
        (f.0, one o.0 entries (x.middle ++ take f.0 x.tried.added) o.2 f.1) in
        let k = kept_of known entries front in
        record {
          c = record { answered = x.answered; ending = At_disk x.tried.moment x.body k.0; taken = x.taken; put = frames_of (replies_of x.answered) ++ [] };
          is_told = refl;
          whole = refl;
          made = reopened k.0 entries k.1;
          faults = omega (arith, line);
          disks = rose;
        }

    -- not opened again
    made_shut : Made known readable adds replies told tells (record { answered = x.answered; ending = Shut x.tried.moment x.body; taken = x.taken; put = frames_of (replies_of x.answered) ++ [] }) old tried_so before after replied
    made_shut =
        made_with (Shut x.tried.moment x.body) tried_so (tried_so, (x.tried.added, refl, x.tried.tries, refl), (tried_so, refl, refl)) refl
        (record { frames = (x.more, x.joined, x.sizes); few = x.few; part = []; put = refl; last = refl }) (λ _. tt)

    pub breaks_shut : {H J : Type 0} (entries : H → List E) (has_failed : H → Bool) (may_leave : H → List ℕ → Type 0) (journal_may_leave : J → List ℕ → Type 0) (why : ServeEnd) (journal : J) (a b c mid d : ℕ)
        → a ≤ b → Rose c mid → mid ≤ d → (why ≡ Ends_disk) ⊎ (why ≡ Ends_memory)
        → (IsTrue known → (image : List ℕ) → journal_may_leave journal image → images image)
        → (IsTrue known → ((image : List ℕ) → images image → (list : List E) × has image list × is_allowed list) → why ≡ Ends_disk → Rose mid d)
        → BreaksIn known readable adds replies told tells entries has_failed has may_leave journal_may_leave why (let back : Result H J = Err journal in back) old before after a b c d
    breaks_shut entries has_failed may_leave journal_may_leave why journal a b c mid d line rose later which refused twice = record {
      c = record { answered = x.answered; ending = Shut x.tried.moment x.body; taken = x.taken; put = frames_of (replies_of x.answered) ++ [] };
      stands = tried_so;
      replied = replied;
      broken = refl;
      shut = λ _. tt;
      which = which;
      made = made_shut;
      comes = refl;
      holds = λ can image left. x.tried.left can image (refused can image left);
      faults = omega (arith, line);
      disks = rose_later 1 c mid d rose later;
      twice = λ can reads is.
          let allowed : (image : List ℕ) → images image → (list : List E) × has image list × is_allowed list = λ image left.
          let f = x.tried.left can image left in
          (x.middle ++ take f.0 x.tried.added, f.1, x.tried.allowed reads f.0) in
          rose_more 1 1 c mid d rose (twice can allowed is);
    }
