-- What a reader has read and given, after each of its steps.
use Rattle.std.proofs.Common.{◌≡◌, inl, inr, ℕ, ◌+◌, ◌-◌, ◌<◌, ◌≤◌, ◌⊎◌, true, false, List, [], ◌∷◌, ◌++◌, length, take, Option, None, Result, Ok, Err, ap, sym, subst, ◌∙◌, arith, append_assoc, append-nil, length-append}
use Rattle.std.specs.Prelude.{MatchResult}
use Rattle.std.specs.Io.KnownBytes.{IsAtEnd, Consumes}
use Rattle.std.proofs.KnownBytes.{Consumes-nil, Consumes-trans}
use Rattle.std.proofs.Math.Seq.{take-append-add, take-nil}
use Rattle.std.proofs.lemmas.List.{take_all, nil_from_length}
use Rattle.std.specs.Str.Lines.{lines}
use Rattle.std.proofs.lemmas.List.Elements.{All-nil}
use Rattle.cap_lines.specs.Lines.{most_bytes, most_lines, is_feed, AllLines, FirstOnes, UpToFault, UpToLimit}
use Rattle.cap_lines.specs.Holding.{HasNoFeed, SplitsLine}
use Rattle.cap_lines.specs.Reading.{GivenBefore, HasRead, StandsAt, Waits, Fed, Gives, Fails, Answers, Finishes, Turns, IsPrompt, line_of, rest_of}
use Rattle.cap_lines.specs.declared.reader.LineReader.{LineReader}
use Rattle.cap_lines.specs.declared.reader.Next.{Next}
use Rattle.cap_lines.specs.declared.reader.InputFault.{InputFault}
use Rattle.cap_lines.specs.declared.reader.InputFault.TheVariants.{Read, Memory}
use Rattle.cap_lines.proofs.Giving.{given_split, given_fed, first_given, limit_lines, limit_bytes, within_all, within_last, fault_at}

-- the reader goes on
pub going : (r : LineReader) (left : Option (List ℕ)) (bytes : List ℕ) (given : List (List ℕ)) → r.is_ended ≡ false → HasRead r left bytes given
    → GivenBefore (rest_of r) (take most_bytes bytes) given
going r left bytes given e h = subst (λ b. StandsAt b left (rest_of r) bytes given) e h.stands

-- a reader that goes on has read so much
goes : (r : LineReader) (left : Option (List ℕ)) (bytes : List ℕ) (given : List (List ℕ)) → r.is_ended ≡ false → r.taken ≡ length bytes → r.given ≡ length given
    → length given ≤ most_lines → GivenBefore (rest_of r) (take most_bytes bytes) given → HasRead r left bytes given
goes r left bytes given e size count fits g =
    record { size = size; count = count; fits = fits; stands = subst (λ b. StandsAt b left (rest_of r) bytes given) (sym e) g }

-- a reader whose input has ended has given all
ends : (r : LineReader) (left : Option (List ℕ)) (bytes : List ℕ) (given : List (List ℕ)) → r.is_ended ≡ true → r.taken ≡ length bytes → r.given ≡ length given
    → length given ≤ most_lines → AllLines left bytes given → HasRead r left bytes given
ends r left bytes given e size count fits all =
    record { size = size; count = count; fits = fits; stands = subst (λ b. StandsAt b left (rest_of r) bytes given) (sym e) all }

-- the input has ended
pub ended : (r : LineReader) (left : Option (List ℕ)) (bytes : List ℕ) (given : List (List ℕ)) → r.is_ended ≡ true → HasRead r left bytes given → AllLines left bytes given
ended r left bytes given e h = subst (λ b. StandsAt b left (rest_of r) bytes given) e h.stands

-- no byte has no line feed
pub none_in_nil : (r : LineReader) → rest_of r ≡ [] → HasNoFeed (rest_of r)
none_in_nil r empty = subst HasNoFeed (sym empty) (All-nil (λ b. is_feed b ≡ false))

module _ (r s : LineReader) (left : Option (List ℕ)) (bytes : List ℕ) (given : List (List ℕ)) (h : HasRead r left bytes given) (e : r.is_ended ≡ false) where
  -- an ended line is given
  pub gives_line : s.is_ended ≡ false → s.taken ≡ r.taken → s.given ≡ r.given + 1 → r.given < most_lines → SplitsLine (rest_of r) (line_of s) (rest_of s)
      → HasRead s left bytes (given ++ line_of s ∷ []) × (FirstOnes left bytes (given ++ line_of s ∷ []))
  gives_line on size count few splits =
      let g = given_split (rest_of r) (line_of s) (rest_of s) (take most_bytes bytes) given (going r left bytes given e h) splits in
      let long : length (given ++ line_of s ∷ []) ≡ length given + 1 = length-append given (line_of s ∷ []) in
      let fits : length (given ++ line_of s ∷ []) ≤ most_lines = omega (arith, long, few, h.count) in (
        goes s left bytes (given ++ line_of s ∷ []) on (size ∙ h.size) (omega (arith, count, h.count, long)) fits g,
        inl (length (given ++ line_of s ∷ []), first_given (rest_of s) bytes (given ++ line_of s ∷ []) g fits),
      )

  -- nothing was taken or given
  pub stays : s.is_ended ≡ r.is_ended → s.taken ≡ r.taken → s.given ≡ r.given → rest_of s ≡ rest_of r → HasRead s left bytes given
  stays on size count rest =
      goes s left bytes given (on ∙ e) (size ∙ h.size) (count ∙ h.count) h.fits
      (subst (λ (l : List ℕ). GivenBefore l (take most_bytes bytes) given) (sym rest) (going r left bytes given e h))

  -- a line past the limit has begun
  pub past_lines : most_lines ≤ r.given → 0 < length (rest_of r) → UpToLimit bytes given
  past_lines full some = limit_lines (rest_of r) bytes given (going r left bytes given e h) h.fits (omega (arith, full, h.count)) some

  -- bytes past the limit were taken
  pub past_bytes : most_bytes < r.taken → HasNoFeed (rest_of r) → UpToLimit bytes given
  past_bytes over none = limit_bytes (rest_of r) bytes given (going r left bytes given e h) h.fits (omega (arith, over, h.size)) none

  few_or_none : (r.given < most_lines) ⊎ (rest_of r ≡ []) → (length given < most_lines) ⊎ (rest_of r ≡ [])
  few_or_none (inl few) = inl (omega (arith, few, h.count))
  few_or_none (inr empty) = inr empty

  -- what was given are the first lines
  pub first_ones : FirstOnes left bytes given
  first_ones = inl (length given, first_given (rest_of r) bytes given (going r left bytes given e h) h.fits)

  -- a take failed
  pub at_fault : Waits r → UpToFault bytes given
  at_fault w =
      fault_at (rest_of r) bytes given (going r left bytes given e h) h.fits (omega (arith, w.size, h.size)) w.none (few_or_none w.count)

  -- the input's end came behind the last line feed
  pub at_end : s.is_ended ≡ true → s.taken ≡ r.taken → s.given ≡ r.given → Waits r → rest_of r ≡ [] → IsAtEnd left → HasRead s left bytes given × (AllLines left bytes given)
  at_end done size count w empty end =
      let all = within_all (rest_of r) bytes given (going r left bytes given e h) h.fits (omega (arith, w.size, h.size)) empty in (
        ends s left bytes given done (size ∙ h.size) (count ∙ h.count) h.fits (end, all.0, all.1),
        (end, all.0, all.1),
      )

  few_where_some : (r.given < most_lines) ⊎ (rest_of r ≡ []) → 0 < length (rest_of r) → r.given < most_lines
  few_where_some (inl few) some = few
  few_where_some (inr empty) some = absurd (omega (arith, some, ap length empty))

  pub few : Waits r → 0 < length (rest_of r) → r.given < most_lines
  few w some = few_where_some w.count some

  -- the input's end came behind a line that has no line feed
  pub at_last : s.is_ended ≡ true → s.taken ≡ r.taken → s.given ≡ r.given + 1 → Waits r → 0 < length (rest_of r) → line_of s ≡ rest_of r → IsAtEnd left
      → HasRead s left bytes (given ++ line_of s ∷ []) × (FirstOnes left bytes (given ++ line_of s ∷ []))
  at_last done size count w some line end =
      let fewer : length given < most_lines = omega (arith, few w some, h.count) in
      let all = within_last (rest_of r) bytes given (going r left bytes given e h) h.fits (omega (arith, w.size, h.size)) w.none some fewer in
      let same : given ++ line_of s ∷ [] ≡ lines bytes = ap (λ (l : List ℕ). given ++ l ∷ []) line ∙ all.1 in
      let long : length (given ++ line_of s ∷ []) ≡ length given + 1 = length-append given (line_of s ∷ []) in (
        ends s left bytes (given ++ line_of s ∷ []) done (size ∙ h.size) (omega (arith, count, h.count, long)) (omega (arith, long, fewer)) (end, all.0, same),
        inr (end, all.0, same),
      )

-- the reader took some bytes more, and gave nothing
abbrev pub HasComeTo : LineReader → Option (List ℕ) → Option (List ℕ) → LineReader → Type 0
HasComeTo old before after new =
    (more : List ℕ) × Consumes before after more
    × ((bytes : List ℕ) (given : List (List ℕ)) → HasRead old before bytes given → HasRead new after (bytes ++ more) given)

pub come_nowhere : (r : LineReader) (left : Option (List ℕ)) → HasComeTo r left left r
come_nowhere r left = ([], Consumes-nil left, λ bytes given h. subst (λ (l : List ℕ). HasRead r left l given) (sym (append-nil bytes)) h)

within_limit : (n : ℕ) (bytes piece : List ℕ) → length bytes ≤ n → take n (bytes ++ piece) ≡ take n bytes ++ take (n - length bytes) piece
within_limit n bytes piece short =
    ap (λ (k : ℕ). take k (bytes ++ piece)) (omega (arith, short))
    ∙ (take-append-add bytes piece (n - length bytes)
    ∙ ap (λ (l : List ℕ). l ++ take (n - length bytes) piece) (sym (take_all n bytes short)))

-- a piece was taken
pub read_on : (r s : LineReader) (left after : Option (List ℕ)) (bytes piece : List ℕ) (given : List (List ℕ)) → HasRead r left bytes given → Waits r → Fed r s piece
    → HasRead s after (bytes ++ piece) given
read_on r s left after bytes piece given h w fed =
    let short : length bytes ≤ most_bytes = omega (arith, w.size, h.size) in
    let fed_before = given_fed (rest_of r) (take most_bytes bytes) (take (most_bytes - length bytes) piece) given (going r left bytes given w.goes_on h) in
    let rest_is : rest_of s ≡ rest_of r ++ take (most_bytes - length bytes) piece =
    fed.rest ∙ ap (λ (n : ℕ). rest_of r ++ take (most_bytes - n) piece) h.size in
    goes s after (bytes ++ piece) given (fed.goes_on ∙ w.goes_on) (omega (arith, fed.size, h.size, length-append bytes piece)) (fed.count ∙ h.count) h.fits
    (subst (λ (l : List ℕ). GivenBefore l (take most_bytes (bytes ++ piece)) given) (sym rest_is)
    (subst (λ (l : List ℕ). GivenBefore (rest_of r ++ take (most_bytes - length bytes) piece) l given) (sym (within_limit most_bytes bytes piece short)) fed_before))

-- none was taken
pub read_none : (r s : LineReader) (left after : Option (List ℕ)) (bytes piece : List ℕ) (given : List (List ℕ)) → HasRead r left bytes given → Waits r → Fed r s piece
    → piece ≡ [] → HasRead s after bytes given
read_none r s left after bytes piece given h w fed empty =
    subst (λ (l : List ℕ). HasRead s after l given) (ap (λ (l : List ℕ). bytes ++ l) empty ∙ append-nil bytes) (read_on r s left after bytes piece given h w fed)

same_rest : (r s : LineReader) (piece : List ℕ) → Fed r s piece → piece ≡ [] → rest_of s ≡ rest_of r
same_rest r s piece fed empty =
    fed.rest ∙ (ap (λ (l : List ℕ). rest_of r ++ take (most_bytes - r.taken) l) empty
    ∙ (ap (λ (l : List ℕ). rest_of r ++ l) (take-nil (most_bytes - r.taken)) ∙ append-nil (rest_of r)))

pub waits_on : (r s : LineReader) (piece : List ℕ) → Waits r → Fed r s piece → piece ≡ [] → Waits s
waits_on r s piece w fed empty =
    let rest = same_rest r s piece fed empty in
    record {
      goes_on = fed.goes_on ∙ w.goes_on;
      size = omega (arith, w.size, fed.size, ap length empty);
      count = subst (λ (l : List ℕ). (s.given < most_lines) ⊎ (l ≡ [])) (sym rest) (subst (λ (n : ℕ). (n < most_lines) ⊎ (rest_of r ≡ [])) (sym fed.count) w.count);
      none = subst HasNoFeed (sym rest) w.none;
    }

-- what is said of either fault
pub fails_with : (left : Option (List ℕ)) (bytes : List ℕ) (given : List (List ℕ)) (s : LineReader) (fault : InputFault) → HasRead s left bytes given → UpToFault bytes given
    → FirstOnes left bytes given → Fails left bytes given s fault
fails_with left bytes given s Read h up first = (h, up)
fails_with left bytes given s Memory h up first = (h, first)

-- the reader answered nothing, and took a piece
pub come_on : (old r a s : LineReader) (before left after : Option (List ℕ)) (piece : List ℕ) → HasComeTo old before left r → Answers r a None → Waits a
    → Consumes left after piece → Fed a s piece → HasComeTo old before after s
come_on old r a s before left after piece (more, took, so_far) answers w consumes fed = (
  more ++ piece,
  Consumes-trans before left after more piece took consumes,
  λ bytes given h.
      subst (λ (l : List ℕ). HasRead s after l given) (append_assoc bytes more piece)
      (read_on a s left after (bytes ++ more) piece given (answers left (bytes ++ more) given (so_far bytes given h)) w fed),
)

-- what is said where the take failed
pub turns_failed : (old s : LineReader) (before after : Option (List ℕ)) (fault : InputFault) (result : Result Next InputFault) → HasComeTo old before after s → Waits s
    → result ≡ Err fault → Turns old before after s result
turns_failed old s before after fault result (more, took, so_far) w is = (
  more,
  took,
  λ bytes given h.
      let read = so_far bytes given h in
      subst (λ (r : Result Next InputFault). MatchResult r (Gives after (bytes ++ more) given s) (Fails after (bytes ++ more) given s)) (sym is)
      (fails_with after (bytes ++ more) given s fault read (at_fault s s after (bytes ++ more) given read w.goes_on w) (first_ones s s after (bytes ++ more) given read w.goes_on)),
)

-- what is said at the input's end
pub turns_finished : (old s new : LineReader) (before after : Option (List ℕ)) (next : Next) → HasComeTo old before after s → Finishes s new next → IsAtEnd after
    → Turns old before after new (Ok next)
turns_finished old s new before after next (more, took, so_far) finishes end =
    (more, took, λ bytes given h. finishes after (bytes ++ more) given (so_far bytes given h) end)

-- no byte was taken since
none_since : (bytes more : List ℕ) → length (bytes ++ more) ≡ length bytes → bytes ++ more ≡ bytes
none_since bytes more same =
    let none : length more ≡ 0 = omega (arith, same, length-append bytes more) in
    ap (λ (l : List ℕ). bytes ++ l) (nil_from_length more none) ∙ append-nil bytes

-- where the reader answered nothing, all lines that had ended were given
pub prompt_on : (old r a s : LineReader) (before left : Option (List ℕ)) → HasComeTo old before left r → IsPrompt old before r → Answers r a None → Waits a
    → IsPrompt old before s
prompt_on old r a s before left (more, took, so_far) prompt answers w bytes given h =
    let read : HasRead r left (bytes ++ more) given = so_far bytes given h in
    elim (prompt bytes given h) [
      | inl same ↦
          let no_more : bytes ++ more ≡ bytes = none_since bytes more (sym read.size ∙ (same ∙ h.size)) in
          let now : HasRead a left (bytes ++ more) given = answers left (bytes ++ more) given read in
          inr (subst (λ (l : List ℕ). UpToFault l given) no_more (at_fault a a left (bytes ++ more) given now w.goes_on w))
      | inr up ↦ inr up
    ]
