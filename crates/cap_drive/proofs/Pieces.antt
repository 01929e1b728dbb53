-- Serving goes on, frame by frame.
use Rattle.std.proofs.Common.{◌≡◌, ◌⊎◌, inl, inr, ℕ, zero, suc, ◌+◌, ◌<◌, ◌≤◌, List, [], ◌∷◌, ◌++◌, length, take, drop, map, Bool, IsTrue, Option, Some, None, MatchOption, refl, sym, ap, subst, ◌∙◌, append_assoc, arith}
use Rattle.std.specs.List.{AllByRecursion}
use Rattle.std.proofs.lemmas.List.{append-nil, take-append-drop, length-append, map-append}
use Rattle.cap_frame.specs.Frame.{IsBody, IsWhole, frame_of, frames_of}
use Rattle.cap_link.specs.Lines.{Lines, Exchanges, exchanges_more}
use Rattle.cap_answering.specs.declared.reply.Reply.{Reply}
use Rattle.cap_answering.specs.Steps.{Event, working, Steps, steps_more}
use Rattle.cap_drive.specs.declared.closing.Closing.{Closing}
use Rattle.cap_drive.specs.declared.closing.Closing.TheVariants.{End, Fault, BadLength, Disk, FrameLimit, Memory}
use Rattle.cap_drive.specs.declared.closing.Tally.{Tally}
use Rattle.cap_drive.specs.Frames.{Answered, Task, reply_bytes, replies_of, bodies_of, IsTold, Does, Tries}
use Rattle.cap_drive.specs.Going.{act_of, moment_of, HasRisen, ServesFrame, Goes, Broken, FrameBreaks, Stops}

pub all_append : {X : Type 0} (P : X → Type 0) (xs ys : List X) → AllByRecursion P xs → AllByRecursion P ys → AllByRecursion P (xs ++ ys)
all_append P [] ys a b = b
all_append P (x ∷ xs) ys a b = (a.0, all_append P xs ys a.1 b)

pub frames_append : (xs ys : List (List ℕ)) → frames_of (xs ++ ys) ≡ frames_of xs ++ frames_of ys
frames_append [] ys = refl
frames_append (x ∷ xs) ys = ap (λ (l : List ℕ). frame_of x ++ l) (frames_append xs ys) ∙ sym (append_assoc (frame_of x) (frames_of xs) (frames_of ys))

pub replies_append : (xs ys : List Answered) → replies_of (xs ++ ys) ≡ replies_of xs ++ replies_of ys
replies_append [] ys = refl
replies_append (x ∷ xs) ys = ap (λ (l : List (List ℕ)). reply_bytes x.reply ++ l) (replies_append xs ys) ∙ sym (append_assoc (reply_bytes x.reply) (replies_of xs) (replies_of ys))

-- frames, and then more of them
pub joined_more : (xs ys : List (List ℕ)) (held first second mid next : List ℕ) → held ++ first ≡ frames_of xs ++ mid → mid ++ second ≡ frames_of ys ++ next
    → held ++ (first ++ second) ≡ frames_of (xs ++ ys) ++ next
joined_more xs ys held first second mid next x y =
    sym (append_assoc held first second) ∙ (ap (λ (l : List ℕ). l ++ second) x ∙ (append_assoc (frames_of xs) mid second
    ∙ (ap (λ (l : List ℕ). frames_of xs ++ l) y ∙ (sym (append_assoc (frames_of xs) (frames_of ys) next) ∙ ap (λ (l : List ℕ). l ++ next) (sym (frames_append xs ys))))))

-- the counts that rose after some time rose over all of it
pub risen_later : (closing : Closing) (a b c d e f : ℕ) → a ≤ b → d ≤ e → HasRisen closing b c e f → HasRisen closing a c d f
risen_later End a b c d e f line disk rose = tt
risen_later Fault a b c d e f line disk rose = omega (arith, line, rose)
risen_later (BadLength n) a b c d e f line disk rose = tt
risen_later Disk a b c d e f line disk rose = omega (arith, disk, rose)
risen_later FrameLimit a b c d e f line disk rose = tt
risen_later Memory a b c d e f line disk rose = tt

module _ {E : Type 0} (known readable : Bool) (adds : List E → ℕ → List ℕ → List E → Type 0) (replies : List E → ℕ → List ℕ → Reply → Type 0) (told : Option ℕ) (tells : Bool) where
  -- no frame was whole
  pub going_nothing : (taken bytes held next : List ℕ) (old : List E) (before after : Lines) (tally : Tally) → next ≡ held ++ bytes → (IsTrue tells → Exchanges taken [] before after)
      → Goes known readable adds replies told tells taken bytes held old before tally next old after tally
  going_nothing taken bytes held next old before after tally is still = record {
    answered = [];
    joined = sym is;
    sizes = tt;
    steps = refl;
    moments = tt;
    put = still;
    frames = omega arith;
    replied = omega arith;
  }

  -- a frame was whole, and it was served
  pub going_frame : (bytes held fed next body : List ℕ) (old new : List E) (before after : Lines) (tally : Tally) (k : ℕ)
      → fed ≡ held ++ bytes → fed ≡ frame_of body → IsBody body → next ≡ [] → ServesFrame known readable adds replies told tells body old new before after k
      → Goes known readable adds replies told tells [] bytes held old before tally next new after (record { frames = tally.frames + 1; replies = tally.replies + k })
  going_frame bytes held fed next body old new before after tally k is whole good none s =
      let one : replies_of (s.answered ∷ []) ≡ reply_bytes s.answered.reply = append-nil (reply_bytes s.answered.reply) in
      record {
        answered = s.answered ∷ [];
        joined = sym is ∙ (whole ∙ (ap frame_of (sym s.of_body) ∙ (sym (append-nil (frame_of s.answered.body)) ∙ (sym (append-nil (frames_of (s.answered.body ∷ []))) ∙ ap (λ (l : List ℕ). frames_of (s.answered.body ∷ []) ++ l) (sym none)))));
        sizes = (subst IsBody (sym s.of_body) good, tt);
        steps = s.steps;
        moments = (s.moment, tt);
        put = λ can. subst (λ (l : List (List ℕ)). Exchanges [] (frames_of l) before after) (sym one) (s.put can);
        frames = refl;
        replied = ap (λ (j : ℕ). tally.replies + j) (s.counted ∙ ap length (sym one));
      }

  -- more bytes that weren't read
  pub goes_rest : (t first more held next : List ℕ) (old new : List E) (before after : Lines) (tally tallied : Tally)
      → Goes known readable adds replies told tells t first held old before tally next new after tallied
      → Goes known readable adds replies told tells t (first ++ more) held old before tally (next ++ more) new after tallied
  goes_rest t first more held next old new before after tally tallied x = record {
    answered = x.answered;
    joined = sym (append_assoc held first more) ∙ (ap (λ (l : List ℕ). l ++ more) x.joined ∙ append_assoc (frames_of (bodies_of x.answered)) next more);
    sizes = x.sizes;
    steps = x.steps;
    moments = x.moments;
    put = x.put;
    frames = x.frames;
    replied = x.replied;
  }

  -- of the bytes only the first n were read
  pub goes_all : (t : List ℕ) (n : ℕ) (bytes held next : List ℕ) (old new : List E) (before after : Lines) (tally tallied : Tally)
      → Goes known readable adds replies told tells t (take n bytes) held old before tally next new after tallied
      → Goes known readable adds replies told tells t bytes held old before tally (next ++ drop n bytes) new after tallied
  goes_all t n bytes held next old new before after tally tallied x =
      subst (λ (l : List ℕ). Goes known readable adds replies told tells t l held old before tally (next ++ drop n bytes) new after tallied) (take-append-drop n bytes)
      (goes_rest t (take n bytes) (drop n bytes) held next old new before after tally tallied x)

  pub goes_more : (t s first second held mid next : List ℕ) (old between new : List E) (before middle after : Lines) (tally tallied last : Tally)
      → Goes known readable adds replies told tells t first held old before tally mid between middle tallied
      → Goes known readable adds replies told tells s second mid between middle tallied next new after last
      → Goes known readable adds replies told tells (t ++ s) (first ++ second) held old before tally next new after last
  goes_more t s first second held mid next old between new before middle after tally tallied last x y = record {
    answered = x.answered ++ y.answered;
    joined = joined_more (bodies_of x.answered) (bodies_of y.answered) held first second mid next x.joined y.joined
        ∙ ap (λ (l : List (List ℕ)). frames_of l ++ next) (sym (map-append (λ (a : Answered). a.body) x.answered y.answered));
    sizes = subst (λ (l : List (List ℕ)). AllByRecursion IsBody l) (sym (map-append (λ (a : Answered). a.body) x.answered y.answered))
        (all_append IsBody (bodies_of x.answered) (bodies_of y.answered) x.sizes y.sizes);
    steps = subst (λ (l : List (Event Task)). Steps known (Does readable adds replies) (Tries readable adds replies) (working old) l (working new)) (sym (map-append act_of x.answered y.answered))
        (steps_more known (Does readable adds replies) (Tries readable adds replies) (working old) (working between) (working new) (map act_of x.answered) (map act_of y.answered) x.steps y.steps);
    moments = subst (λ (l : List ℕ). AllByRecursion (IsTold told) l) (sym (map-append moment_of x.answered y.answered))
        (all_append (IsTold told) (map moment_of x.answered) (map moment_of y.answered) x.moments y.moments);
    put = λ can. subst (λ (l : List ℕ). Exchanges (t ++ s) l before after)
        (sym (ap frames_of (replies_append x.answered y.answered) ∙ frames_append (replies_of x.answered) (replies_of y.answered)))
        (exchanges_more t (frames_of (replies_of x.answered)) s (frames_of (replies_of y.answered)) before middle after (x.put can) (y.put can));
    frames = omega (arith, x.frames, y.frames, length-append x.answered y.answered);
    replied = omega (arith, x.replied, y.replied, ap length (replies_append x.answered y.answered), length-append (replies_of x.answered) (replies_of y.answered));
  }

  broken_later : (part : List ℕ → List E → List E → Lines → Lines → Type 0) (t s first second held mid : List ℕ) (old between new : List E) (before middle after : Lines) (tally tallied last : Tally)
      → Goes known readable adds replies told tells t first held old before tally mid between middle tallied
      → Broken known readable adds replies told tells part s second mid between middle tallied new after last
      → Broken known readable adds replies told tells part (t ++ s) (first ++ second) held old before tally new after last
  broken_later part t s first second held mid old between new before middle after tally tallied last x y = record {
    body = y.body;
    more = y.more;
    middle = y.middle;
    between = y.between;
    goes = goes_more t s first second held mid (frame_of y.body ++ y.more) old between y.middle before middle y.between tally tallied last x y.goes;
    good = y.good;
    few = y.few;
    broken = y.broken;
  }

  -- a frame was whole, and it was served no further
  broken_here : (part : List ℕ → List E → List E → Lines → Lines → Type 0) (bytes held fed body : List ℕ) (n : ℕ) (old new : List E) (before after : Lines) (tally : Tally)
      → fed ≡ held ++ take n bytes → fed ≡ frame_of body → IsBody body → tally.frames < 65536 → (IsTrue tells → Exchanges [] [] before before) → part body old new before after
      → Broken known readable adds replies told tells part [] bytes held old before tally new after tally
  broken_here part bytes held fed body n old new before after tally is whole good few still broken = record {
    body = body;
    more = drop n bytes;
    middle = old;
    between = before;
    goes = going_nothing [] bytes held (frame_of body ++ drop n bytes) old before before tally
        (ap (λ (l : List ℕ). l ++ drop n bytes) (sym whole ∙ is) ∙ (append_assoc held (take n bytes) (drop n bytes) ∙ ap (λ (l : List ℕ). held ++ l) (take-append-drop n bytes))) still;
    good = good;
    few = few;
    broken = broken;
  }

  module _ (has : List ℕ → List E → Type 0) (is_allowed : List E → Type 0) where
    pub stops_here : (closing : Closing) (images : List ℕ → Type 0) (bytes held fed body : List ℕ) (n : ℕ) (old new : List E) (before after : Lines) (tally : Tally)
        → fed ≡ held ++ take n bytes → fed ≡ frame_of body → IsBody body → tally.frames < 65536 → (IsTrue tells → Exchanges [] [] before before)
        → FrameBreaks known readable adds replies told tells has is_allowed closing images body old new before after
        → Stops known readable adds replies told tells has is_allowed closing images [] bytes held old before tally new after tally
    stops_here End images bytes held fed body n old new before after tally is whole good few still broken = broken
    stops_here Fault images bytes held fed body n old new before after tally is whole good few still broken =
        broken_here (FrameBreaks known readable adds replies told tells has is_allowed Fault images) bytes held fed body n old new before after tally is whole good few still broken
    stops_here (BadLength k) images bytes held fed body n old new before after tally is whole good few still broken = absurd broken
    stops_here Disk images bytes held fed body n old new before after tally is whole good few still broken =
        broken_here (FrameBreaks known readable adds replies told tells has is_allowed Disk images) bytes held fed body n old new before after tally is whole good few still broken
    stops_here FrameLimit images bytes held fed body n old new before after tally is whole good few still broken = absurd broken
    stops_here Memory images bytes held fed body n old new before after tally is whole good few still broken =
        broken_here (FrameBreaks known readable adds replies told tells has is_allowed Memory images) bytes held fed body n old new before after tally is whole good few still broken

    pub stops_later : (closing : Closing) (images : List ℕ → Type 0) (t s first second held mid : List ℕ) (old between new : List E) (before middle after : Lines) (tally tallied last : Tally)
        → Goes known readable adds replies told tells t first held old before tally mid between middle tallied
        → Stops known readable adds replies told tells has is_allowed closing images s second mid between middle tallied new after last
        → Stops known readable adds replies told tells has is_allowed closing images (t ++ s) (first ++ second) held old before tally new after last
    stops_later End images t s first second held mid old between new before middle after tally tallied last x stop = stop
    stops_later Fault images t s first second held mid old between new before middle after tally tallied last x stop =
        broken_later (FrameBreaks known readable adds replies told tells has is_allowed Fault images) t s first second held mid old between new before middle after tally tallied last x stop
    stops_later (BadLength n) images t s first second held mid old between new before middle after tally tallied last x (rest, goes, bad, stated, few) =
        (rest, goes_more t s first second held mid rest old between new before middle after tally tallied last x goes, bad, stated, few)
    stops_later Disk images t s first second held mid old between new before middle after tally tallied last x stop =
        broken_later (FrameBreaks known readable adds replies told tells has is_allowed Disk images) t s first second held mid old between new before middle after tally tallied last x stop
    stops_later FrameLimit images t s first second held mid old between new before middle after tally tallied last x (rest, goes, limit) =
        (rest, goes_more t s first second held mid rest old between new before middle after tally tallied last x goes, limit)
    stops_later Memory images t s first second held mid old between new before middle after tally tallied last x stop =
        broken_later (FrameBreaks known readable adds replies told tells has is_allowed Memory images) t s first second held mid old between new before middle after tally tallied last x stop

    pub stops_later_in : (closing : Closing) (images : List ℕ → Type 0) (t s first second bytes held mid : List ℕ) (old between new : List E) (before middle after : Lines) (tally tallied last : Tally) → first ++ second ≡ bytes
        → Goes known readable adds replies told tells t first held old before tally mid between middle tallied
        → Stops known readable adds replies told tells has is_allowed closing images s second mid between middle tallied new after last
        → Stops known readable adds replies told tells has is_allowed closing images (t ++ s) bytes held old before tally new after last
    stops_later_in closing images t s first second bytes held mid old between new before middle after tally tallied last is x stop =
        subst (λ (l : List ℕ). Stops known readable adds replies told tells has is_allowed closing images (t ++ s) l held old before tally new after last) is
        (stops_later closing images t s first second held mid old between new before middle after tally tallied last x stop)

-- the same, where what is told stayed
module _ {E : Type 0} (adds : List E → ℕ → List ℕ → List E → Type 0) (replies : List E → ℕ → List ℕ → Reply → Type 0) (known knew readable read : Bool) (told then : Option ℕ) (tells did : Bool)
    (k : known ≡ knew) (r : readable ≡ read) (t : told ≡ then) (l : tells ≡ did) where
  pub goes_as : (taken bytes held next : List ℕ) (old new : List E) (before after : Lines) (tally tallied : Tally)
      → Goes known readable adds replies told tells taken bytes held old before tally next new after tallied → Goes knew read adds replies then did taken bytes held old before tally next new after tallied
  goes_as taken bytes held next old new before after tally tallied x =
      subst (λ (v : Bool). Goes knew read adds replies then v taken bytes held old before tally next new after tallied) l
      (subst (λ (v : Option ℕ). Goes knew read adds replies v tells taken bytes held old before tally next new after tallied) t
      (subst (λ (v : Bool). Goes knew v adds replies told tells taken bytes held old before tally next new after tallied) r
      (subst (λ (v : Bool). Goes v readable adds replies told tells taken bytes held old before tally next new after tallied) k x)))

  pub stops_as : (has : List ℕ → List E → Type 0) (is_allowed : List E → Type 0) (closing : Closing) (images : List ℕ → Type 0) (taken bytes held : List ℕ) (old new : List E) (before after : Lines) (tally tallied : Tally)
      → Stops known readable adds replies told tells has is_allowed closing images taken bytes held old before tally new after tallied
      → Stops knew read adds replies then did has is_allowed closing images taken bytes held old before tally new after tallied
  stops_as has is_allowed closing images taken bytes held old new before after tally tallied x =
      subst (λ (v : Bool). Stops knew read adds replies then v has is_allowed closing images taken bytes held old before tally new after tallied) l
      (subst (λ (v : Option ℕ). Stops knew read adds replies v tells has is_allowed closing images taken bytes held old before tally new after tallied) t
      (subst (λ (v : Bool). Stops knew v adds replies told tells has is_allowed closing images taken bytes held old before tally new after tallied) r
      (subst (λ (v : Bool). Stops v readable adds replies told tells has is_allowed closing images taken bytes held old before tally new after tallied) k x)))

neither : {held bytes : List ℕ} → IsWhole held ⊎ (bytes ≡ []) → (IsWhole held → ⊥) → 0 < length bytes → ⊥
neither (inl w) idle some = idle w
neither {bytes = bytes} (inr e) idle some = omega (arith, some, ap length e)

pub some_taken : (n : ℕ) (held bytes : List ℕ) → (n ≡ 0 → IsWhole held ⊎ (bytes ≡ [])) → (IsWhole held → ⊥) → 0 < length bytes → (n ≡ 0) ⊎ (0 < n) → 0 < n
some_taken n held bytes none idle some (inr lt) = lt
some_taken n held bytes none idle some (inl z) = absurd (neither (none z) idle some)

pub at_none : {X : Type 0} (r : Option X) (A B : Type 0) → (let none : Option X = None in r ≡ none) → MatchOption r A (λ _. B) → A
at_none r A B e h = subst (λ q. MatchOption q A (λ _. B)) e h

pub at_some : {X : Type 0} (r : Option X) (x : X) (A B : Type 0) → (let some : Option X = Some x in r ≡ some) → MatchOption r A (λ _. B) → B
at_some r x A B e h = subst (λ q. MatchOption q A (λ _. B)) e h

pub zero_or : (n : ℕ) → (n ≡ 0) ⊎ (0 < n)
zero_or zero = inl refl
zero_or (suc n) = inr (omega arith)
