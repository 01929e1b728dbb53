-- How a connection is closed.
use Rattle.std.proofs.Common.{◌≡◌, ◌⊎◌, inl, inr, ℕ, ◌<◌, List, [], ◌∷◌, ◌++◌, length, map, Bool, IsTrue, Option, Some, refl, sym, ap, subst, ◌∙◌, append_assoc, arith}
use Rattle.std.specs.List.{AllByRecursion}
use Rattle.std.proofs.lemmas.List.{append-nil}
use Rattle.cap_frame.specs.Frame.{IsBody, BeginsBad, HasNoFrame, Frames, stated_length, frame_of, frames_of}
use Rattle.cap_frame.specs.OneList.{frames_push, all_push}
use Rattle.cap_link.specs.Lines.{Lines, Line, Exchanges, HasNoneLeft, nothing, exchanges_more}
use Rattle.cap_answering.specs.declared.reply.Reply.{Reply}
use Rattle.cap_answering.specs.Steps.{EndState, working, steps_more}
use Rattle.cap_drive.specs.declared.closing.Closing.{Closing}
use Rattle.cap_drive.specs.declared.closing.Closing.TheVariants.{End, Fault, BadLength, Disk, FrameLimit, Memory}
use Rattle.cap_drive.specs.declared.closing.Tally.{Tally}
use Rattle.cap_drive.specs.Frames.{replies_of, bodies_of, IsTold, Does, Tries}
use Rattle.cap_drive.specs.Connections.{Ending, At_end, At_take, At_put, At_bad_length, At_limit, Lacks, Lacks_to_put, last_body, last_events, last_moment, LeavesRest, Counts, IsEmptied}
use Rattle.cap_drive.specs.Going.{act_of, moment_of, IsBegun, Goes, Cuts, FrameBreaks, Stops}
use Rattle.cap_drive.specs.Closings.{Made, Closes}
use Rattle.cap_drive.proofs.Pieces.{all_append, goes_more, stops_later}

line_is : (x y : Line) → (let a : Option Line = Some x in a ≡ Some y) → x ≡ y
line_is x y e = cc

pub none_left : (before after : Lines) → Exchanges [] [] before after → HasNoneLeft before → HasNoneLeft after
none_left before after x (line, is, left) = (
  record { left = x.rest; talk = record { taken = x.before.talk.taken ++ []; put = x.before.talk.put ++ [] } },
  ap (λ (l : Lines). l.current) x.now,
  sym x.left ∙ (ap (λ (l : Line). l.left) (line_is x.before line (sym x.is_open ∙ is)) ∙ left),
)

still_after : (t p : List ℕ) (before after : Lines) → Exchanges t p before after → Exchanges [] [] after after
still_after t p before after x =
    nothing after (record { left = x.rest; talk = record { taken = x.before.talk.taken ++ t; put = x.before.talk.put ++ p } }, ap (λ (l : Lines). l.current) x.now)

-- no frame is in hand
no_body : (bodies : List (List ℕ)) (taken rest : List ℕ) → taken ≡ frames_of bodies ++ rest → AllByRecursion IsBody bodies
    → (more : List ℕ) × (taken ≡ frames_of (bodies ++ []) ++ more) × AllByRecursion IsBody (bodies ++ [])
no_body bodies taken rest joined sizes =
    let P : List (List ℕ) → Type 0 = λ l. (more : List ℕ) × (taken ≡ frames_of l ++ more) × AllByRecursion IsBody l in
    subst P (sym (append-nil bodies)) (rest, joined, sizes)

no_body_begun : (bodies : List (List ℕ)) (taken rest : List ℕ) → taken ≡ frames_of bodies ++ rest → AllByRecursion IsBody bodies → HasNoFrame rest → Frames taken (bodies ++ []) rest
no_body_begun bodies taken rest joined sizes none =
    subst (λ (l : List (List ℕ)). Frames taken l rest) (sym (append-nil bodies)) (record { joined = joined; sizes = sizes; no_more = none })

-- a frame is in hand, whether it was answered or not
in_hand : (lasts : List (List ℕ)) (body : List ℕ) → (lasts ≡ []) ⊎ (lasts ≡ body ∷ []) → (bodies : List (List ℕ)) (taken more : List ℕ) → taken ≡ frames_of bodies ++ (frame_of body ++ more)
    → AllByRecursion IsBody bodies → IsBody body → (rest : List ℕ) × (taken ≡ frames_of (bodies ++ lasts) ++ rest) × AllByRecursion IsBody (bodies ++ lasts)
in_hand lasts body (inl none) bodies taken more joined sizes good =
    let P : List (List ℕ) → Type 0 = λ l. (rest : List ℕ) × (taken ≡ frames_of (bodies ++ l) ++ rest) × AllByRecursion IsBody (bodies ++ l) in
    subst P (sym none) (no_body bodies taken (frame_of body ++ more) joined sizes)
in_hand lasts body (inr one) bodies taken more joined sizes good =
    let P : List (List ℕ) → Type 0 = λ l. (rest : List ℕ) × (taken ≡ frames_of (bodies ++ l) ++ rest) × AllByRecursion IsBody (bodies ++ l) in
    subst P (sym one) (
      more,
      joined ∙ (sym (append_assoc (frames_of bodies) (frame_of body) more) ∙ ap (λ (l : List ℕ). l ++ more) (sym (frames_push bodies body))),
      all_push IsBody bodies body sizes good,
    )

module _ {E : Type 0} (known readable : Bool) (adds : List E → ℕ → List ℕ → List E → Type 0) (replies : List E → ℕ → List ℕ → Reply → Type 0) (told : Option ℕ) (tells : Bool) where
  made : (ending : Ending) (taken next body : List ℕ) (old mid : List E) (new : EndState E) (before middle after : Lines) (tally tallied : Tally) → tally.replies ≡ 0
      → (x : Goes known readable adds replies told tells taken taken [] old before tally next mid middle tallied)
      → (y : Cuts known readable adds replies told tells ending body mid new middle after)
      → LeavesRest ending taken (bodies_of x.answered ++ last_body ending) → Counts ending (length x.answered) → (IsTrue tells → IsEmptied ending after)
      → Made known readable adds replies told tells (record { answered = x.answered; ending = ending; taken = taken; put = frames_of (replies_of x.answered) ++ y.part }) old new before after tallied.replies
  made ending taken next body old mid new before middle after tally tallied zero_replies x y rest few emptied = record {
    served = record { frames = rest; few = few; part = y.part; put = refl; last = y.puts };
    steps = steps_more known (Does readable adds replies) (Tries readable adds replies) (working old) (working mid) new (map act_of x.answered) (last_events ending) x.steps y.steps;
    moments = all_append (IsTold told) (map moment_of x.answered) (last_moment ending) x.moments y.moments;
    exchanged = λ can. subst (λ (l : List ℕ). Exchanges l (frames_of (replies_of x.answered) ++ y.part) before after) (append-nil taken)
        (exchanges_more taken (frames_of (replies_of x.answered)) [] y.part before middle after (x.put can) (y.put can));
    emptied = emptied;
    counted = omega (arith, x.replied, zero_replies);
  }

  module _ (has : List ℕ → List E → Type 0) (is_allowed : List E → Type 0) (images : List ℕ → Type 0) (taken : List ℕ) (old new : List E) (before : Lines) (tally tallied : Tally) (none : tally.frames ≡ 0) (zero_replies : tally.replies ≡ 0) where
    -- at the end of the connection, or where taking failed
    module _ (held : List ℕ) (middle after : Lines) (x : Goes known readable adds replies told tells taken taken [] old before tally held new middle tallied) (begun : IsBegun held) (few : tallied.frames < 65536)
        (still : IsTrue tells → Exchanges [] [] middle after) where
      pub closed_end : (IsTrue tells → HasNoneLeft after) → Closes known readable adds replies told tells has is_allowed End images old new before after tallied.replies
      closed_end emptied = (
        record { answered = x.answered; ending = At_end; taken = taken; put = frames_of (replies_of x.answered) ++ [] },
        refl,
        made At_end taken held [] old new (working new) before middle after tally tallied zero_replies x
            (record { part = []; last = inl refl; steps = refl; moments = tt; put = still; puts = refl })
            (held, no_body_begun (bodies_of x.answered) taken held x.joined x.sizes begun.no_more, begun.good) (omega (arith, x.frames, none, few)) emptied,
      )

      pub closed_take : Closes known readable adds replies told tells has is_allowed Fault images old new before after tallied.replies
      closed_take = (
        record { answered = x.answered; ending = At_take; taken = taken; put = frames_of (replies_of x.answered) ++ [] },
        refl,
        made At_take taken held [] old new (working new) before middle after tally tallied zero_replies x
            (record { part = []; last = inl refl; steps = refl; moments = tt; put = still; puts = refl })
            (held, no_body_begun (bodies_of x.answered) taken held x.joined x.sizes begun.no_more, begun.good) (omega (arith, x.frames, none, few)) (λ _. tt),
      )

      -- memory lacked between two frames
      pub closed_lacking : Closes known readable adds replies told tells has is_allowed Memory images old new before after tallied.replies
      closed_lacking = (
        record { answered = x.answered; ending = Lacks; taken = taken; put = frames_of (replies_of x.answered) ++ [] },
        refl,
        made Lacks taken held [] old new (working new) before middle after tally tallied zero_replies x
            (record { part = []; last = inl refl; steps = refl; moments = tt; put = still; puts = refl })
            (no_body (bodies_of x.answered) taken held x.joined x.sizes) (omega (arith, x.frames, none, few)) (λ _. tt),
      )

    -- within the bytes taken
    module _ (after : Lines) where
      bad_length : (n : ℕ) (rest : List ℕ) → Goes known readable adds replies told tells taken taken [] old before tally rest new after tallied → BeginsBad rest → n ≡ stated_length rest → tallied.frames < 65536
          → Closes known readable adds replies told tells has is_allowed (BadLength n) images old new before after tallied.replies
      bad_length n rest x bad stated few = (
        record { answered = x.answered; ending = At_bad_length n; taken = taken; put = frames_of (replies_of x.answered) ++ [] },
        refl,
        made (At_bad_length n) taken rest [] old new (working new) before after after tally tallied zero_replies x
            (record { part = []; last = inl refl; steps = refl; moments = tt; put = λ can. still_after taken (frames_of (replies_of x.answered)) before after (x.put can); puts = refl })
            (rest, no_body_begun (bodies_of x.answered) taken rest x.joined x.sizes (inr (inr bad)), bad, stated) (omega (arith, x.frames, none, few)) (λ _. tt),
      )

      frame_limit : (rest : List ℕ) → Goes known readable adds replies told tells taken taken [] old before tally rest new after tallied → tallied.frames ≡ 65536
          → Closes known readable adds replies told tells has is_allowed FrameLimit images old new before after tallied.replies
      frame_limit rest x limit = (
        record { answered = x.answered; ending = At_limit; taken = taken; put = frames_of (replies_of x.answered) ++ [] },
        refl,
        made At_limit taken rest [] old new (working new) before after after tally tallied zero_replies x
            (record { part = []; last = inl refl; steps = refl; moments = tt; put = λ can. still_after taken (frames_of (replies_of x.answered)) before after (x.put can); puts = refl })
            (no_body (bodies_of x.answered) taken rest x.joined x.sizes) (omega (arith, x.frames, none, limit)) (λ _. tt),
      )

      module _ (middle : List E) (between : Lines) (body more : List ℕ) (x : Goes known readable adds replies told tells taken taken [] old before tally (frame_of body ++ more) middle between tallied)
          (good : IsBody body) (few : tallied.frames < 65536) where
        put_fault : FrameBreaks known readable adds replies told tells has is_allowed Fault images body middle new between after
            → Closes known readable adds replies told tells has is_allowed Fault images old new before after tallied.replies
        put_fault (a, part, rest, cut) = (
          record { answered = x.answered; ending = At_put a part rest; taken = taken; put = frames_of (replies_of x.answered) ++ cut.part },
          refl,
          made (At_put a part rest) taken (frame_of body ++ more) body old middle (working new) before between after tally tallied zero_replies x cut
              (in_hand (last_body (At_put a part rest)) body cut.last (bodies_of x.answered) taken more x.joined x.sizes good) (omega (arith, x.frames, none, few)) (λ _. tt),
        )

        lacking : FrameBreaks known readable adds replies told tells has is_allowed Memory images body middle new between after
            → Closes known readable adds replies told tells has is_allowed Memory images old new before after tallied.replies
        lacking (inl cut) = (
          record { answered = x.answered; ending = Lacks; taken = taken; put = frames_of (replies_of x.answered) ++ cut.part },
          refl,
          made Lacks taken (frame_of body ++ more) body old middle (working new) before between after tally tallied zero_replies x cut
              (in_hand (last_body Lacks) body cut.last (bodies_of x.answered) taken more x.joined x.sizes good) (omega (arith, x.frames, none, few)) (λ _. tt),
        )
        lacking (inr (a, part, rest, cut)) = (
          record { answered = x.answered; ending = Lacks_to_put a part rest; taken = taken; put = frames_of (replies_of x.answered) ++ cut.part },
          refl,
          made (Lacks_to_put a part rest) taken (frame_of body ++ more) body old middle (working new) before between after tally tallied zero_replies x cut
              (in_hand (last_body (Lacks_to_put a part rest)) body cut.last (bodies_of x.answered) taken more x.joined x.sizes good) (omega (arith, x.frames, none, few)) (λ _. tt),
        )

        disk_fault_in : FrameBreaks known readable adds replies told tells has is_allowed Disk images body middle new between after
            → Closes known readable adds replies told tells has is_allowed Disk images old new before after tallied.replies
        disk_fault_in (tried, still) =
            let one : body ∷ [] ≡ body ∷ [] = refl in
            let rest = in_hand (body ∷ []) body (inr one) (bodies_of x.answered) taken more x.joined x.sizes good in
            record {
              answered = x.answered;
              taken = taken;
              more = rest.0;
              middle = middle;
              body = body;
              joined = rest.1;
              sizes = rest.2;
              few = omega (arith, x.frames, none, few);
              steps = x.steps;
              moments = x.moments;
              exchanged = λ can. subst (λ (l : List ℕ). Exchanges l (frames_of (replies_of x.answered)) before after) (append-nil taken)
                  (subst (λ (l : List ℕ). Exchanges (taken ++ []) l before after) (append-nil (frames_of (replies_of x.answered)))
                  (exchanges_more taken (frames_of (replies_of x.answered)) [] [] before between after (x.put can) (still can)));
              counted = omega (arith, x.replied, zero_replies);
              tried = tried;
            }

      pub closes_stop : (closing : Closing) → Stops known readable adds replies told tells has is_allowed closing images taken taken [] old before tally new after tallied
          → Closes known readable adds replies told tells has is_allowed closing images old new before after tallied.replies
      closes_stop End stop = absurd stop
      closes_stop Fault stop = put_fault stop.middle stop.between stop.body stop.more stop.goes stop.good stop.few stop.broken
      closes_stop (BadLength n) (rest, goes, bad, stated, few) = bad_length n rest goes bad stated few
      closes_stop Disk stop = disk_fault_in stop.middle stop.between stop.body stop.more stop.goes stop.good stop.few stop.broken
      closes_stop FrameLimit (rest, goes, limit) = frame_limit rest goes limit
      closes_stop Memory stop = lacking stop.middle stop.between stop.body stop.more stop.goes stop.good stop.few stop.broken

  -- a piece is taken, before it is served
  goes_taken : (t p held : List ℕ) (old new : List E) (before middle after : Lines) (tally tallied : Tally)
      → Goes known readable adds replies told tells t t [] old before tally held new middle tallied → (IsTrue tells → Exchanges p [] middle after)
      → Goes known readable adds replies told tells (t ++ p) t [] old before tally held new after tallied
  goes_taken t p held old new before middle after tally tallied x took = record {
    answered = x.answered;
    joined = x.joined;
    sizes = x.sizes;
    steps = x.steps;
    moments = x.moments;
    put = λ can. subst (λ (l : List ℕ). Exchanges (t ++ p) l before after) (append-nil (frames_of (replies_of x.answered)))
        (exchanges_more t (frames_of (replies_of x.answered)) p [] before middle after (x.put can) (took can));
    frames = x.frames;
    replied = x.replied;
  }

  pub goes_through : (t p held next : List ℕ) (old mid new : List E) (before middle between after : Lines) (tally tallied last : Tally)
      → Goes known readable adds replies told tells t t [] old before tally held mid middle tallied → (IsTrue tells → Exchanges p [] middle between)
      → Goes known readable adds replies told tells [] p held mid between tallied next new after last
      → Goes known readable adds replies told tells (t ++ p) (t ++ p) [] old before tally next new after last
  goes_through t p held next old mid new before middle between after tally tallied last x took y =
      subst (λ (l : List ℕ). Goes known readable adds replies told tells l (t ++ p) [] old before tally next new after last) (append-nil (t ++ p))
      (goes_more known readable adds replies told tells (t ++ p) [] t p [] held next old mid new before between after tally tallied last
      (goes_taken t p held old mid before middle between tally tallied x took) y)

  pub stops_through : (has : List ℕ → List E → Type 0) (is_allowed : List E → Type 0) (closing : Closing) (images : List ℕ → Type 0) (t p held : List ℕ) (old mid new : List E) (before middle between after : Lines) (tally tallied last : Tally)
      → tally.frames ≡ 0 → tally.replies ≡ 0
      → Goes known readable adds replies told tells t t [] old before tally held mid middle tallied → (IsTrue tells → Exchanges p [] middle between)
      → Stops known readable adds replies told tells has is_allowed closing images [] p held mid between tallied new after last
      → Closes known readable adds replies told tells has is_allowed closing images old new before after last.replies
  stops_through has is_allowed closing images t p held old mid new before middle between after tally tallied last none zero_replies x took stop =
      closes_stop has is_allowed images (t ++ p) old new before tally last none zero_replies after closing
      (subst (λ (l : List ℕ). Stops known readable adds replies told tells has is_allowed closing images l (t ++ p) [] old before tally new after last) (append-nil (t ++ p))
      (stops_later known readable adds replies told tells has is_allowed closing images (t ++ p) [] t p [] held old mid new before between after tally tallied last
      (goes_taken t p held old mid before middle between tally tallied x took) stop))
