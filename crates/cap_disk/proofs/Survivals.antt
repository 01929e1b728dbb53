-- What a restart finds, in terms of the calls one after the other.
use Rattle.std.proofs.Common.{◌≡◌, inl, inr, ⊎_elim, ℕ, zero, suc, ◌+◌, ◌-◌, ◌<◌, List, [], ◌∷◌, ◌++◌, length, take, drop, replicate, slice_get, false, Option, Some, None, refl, sym, ◌∙◌, ap, subst, arith}
use Rattle.std.proofs.lemmas.List.{take_more, take-append-drop, drop-drop, length-replicate}
use Rattle.std.proofs.lemmas.Option.{slice_get_within, get_or_from_slice_get}
use Rattle.cap_disk.specs.Disk.{Contents, IsOutside, KeepsOutside, Leaves, MayLeave, overwrite}
use Rattle.cap_disk.specs.History.{start, step, taken, all_taken, lens, after, shows_one_after, overwrite_long, outside_write}
use Rattle.cap_disk.specs.Survivor.{step_to_cut, at_cut, filled, survivor, restart_of, laid, fill_calls, has_sync}
use Rattle.cap_disk.specs.declared.arming.Fill.{Fill}
use Rattle.cap_disk.specs.declared.arming.Fill.TheVariants.{Old, New, Byte}
use Rattle.cap_disk.specs.declared.recorded.Call.{Call}
use Rattle.cap_disk.specs.declared.recorded.Call.TheVariants.{Write, Blank, Late, Sync}

-- two runs of calls, one after the other
after-append : (c : Contents) (front log : List Call) (bytes : List ℕ) → after c (front ++ log) bytes ≡ after (after c front bytes) log (drop (all_taken front) bytes)
after-append c [] log bytes = refl
after-append c (call ∷ front) log bytes = after-append (step c call bytes) front log (drop (taken call) bytes) ∙ ap (λ (l : List ℕ). after (after (step c call bytes) front (drop (taken call) bytes)) log l) (drop-drop (all_taken front) (taken call) bytes)

at_cut-append : (c : Contents) (front log : List Call) (bytes : List ℕ) → at_cut c (front ++ log) bytes ≡ at_cut (at_cut c front bytes) log (drop (all_taken front) bytes)
at_cut-append c [] log bytes = refl
at_cut-append c (call ∷ front) log bytes = at_cut-append (step_to_cut c call bytes) front log (drop (taken call) bytes) ∙ ap (λ (l : List ℕ). at_cut (at_cut (step_to_cut c call bytes) front (drop (taken call) bytes)) log l) (drop-drop (all_taken front) (taken call) bytes)

-- what a read gives is the writes laid one over the other
pub shown_is_laid : (c : Contents) (log : List Call) (bytes : List ℕ) → (after c log bytes).shown ≡ laid c.shown log bytes
shown_is_laid c [] bytes = refl
shown_is_laid c (Write place len ∷ log) bytes = shown_is_laid (step c (Write place len) bytes) log (drop len bytes)
shown_is_laid c (Blank place len ∷ log) bytes = shown_is_laid (step c (Blank place len) bytes) log (drop 0 bytes)
shown_is_laid c (Late place len ∷ log) bytes = shown_is_laid (step c (Late place len) bytes) log (drop 0 bytes)
shown_is_laid c (Sync ∷ log) bytes = shown_is_laid (step c Sync bytes) log (drop 0 bytes)

-- without a sync the synced bytes stay
synced_stays : (c : Contents) (log : List Call) (bytes : List ℕ) → has_sync log ≡ false → (after c log bytes).synced ≡ c.synced
synced_stays c [] bytes none = refl
synced_stays c (Write place len ∷ log) bytes none = synced_stays (step c (Write place len) bytes) log (drop len bytes) none
synced_stays c (Blank place len ∷ log) bytes none = synced_stays (step c (Blank place len) bytes) log (drop 0 bytes) none
synced_stays c (Late place len ∷ log) bytes none = synced_stays (step c (Late place len) bytes) log (drop 0 bytes) none
synced_stays c (Sync ∷ log) bytes none = cc

front_ends : (k : ℕ) (log : List Call) → slice_get log k ≡ Some Sync → take (suc k) log ≡ take k log ++ Sync ∷ []
front_ends k log found = (let e : suc k ≡ k + 1 = omega arith in ap (λ (n : ℕ). take n log) e) ∙ take_more log k Sync (slice_get_within log k Sync found) ∙ ap (λ (x : Call). take k log ++ x ∷ []) (get_or_from_slice_get log k Sync Sync found)

pub settled : (first bytes : List ℕ) (log : List Call) (k : ℕ) → (0 < k → slice_get log (k - 1) ≡ Some Sync) → (after (start first) (take k log) bytes).synced ≡ (after (start first) (take k log) bytes).shown
settled first bytes log zero found = refl
settled first bytes log (suc k) found =
    let is : slice_get log k ≡ Some Sync = (let e : suc k - 1 ≡ k = omega arith in ap (λ (n : ℕ). slice_get log n) (sym e)) ∙ found (omega arith) in
    let whole : after (start first) (take (suc k) log) bytes ≡ after (after (start first) (take k log) bytes) (Sync ∷ []) (drop (all_taken (take k log)) bytes) =
    ap (λ (l : List Call). after (start first) l bytes) (front_ends k log is) ∙ after-append (start first) (take k log) (Sync ∷ []) bytes in
    ap (λ (c : Contents). c.synced) whole ∙ sym (ap (λ (c : Contents). c.shown) whole)

none_written : (first bytes : List ℕ) (log : List Call) (k : ℕ) → (0 < k → slice_get log (k - 1) ≡ Some Sync) → (at_cut (start first) (take k log) bytes).written ≡ []
none_written first bytes log zero found = refl
none_written first bytes log (suc k) found =
    let is : slice_get log k ≡ Some Sync = (let e : suc k - 1 ≡ k = omega arith in ap (λ (n : ℕ). slice_get log n) (sym e)) ∙ found (omega arith) in
    ap (λ (l : List Call). (at_cut (start first) l bytes).written) (front_ends k log is) ∙ ap (λ (c : Contents). c.written) (at_cut-append (start first) (take k log) (Sync ∷ []) bytes)

-- the synced bytes are the writes up to the last sync
pub synced_is_laid : (first bytes : List ℕ) (log : List Call) (k : ℕ) → (0 < k → slice_get log (k - 1) ≡ Some Sync) → has_sync (drop k log) ≡ false → laid first (take k log) bytes ≡ (after (start first) log bytes).synced
synced_is_laid first bytes log k found none =
    sym (shown_is_laid (start first) (take k log) bytes) ∙ sym (settled first bytes log k found)
    ∙ sym (synced_stays (after (start first) (take k log) bytes) (drop k log) (drop (all_taken (take k log)) bytes) none)
    ∙ sym (ap (λ (c : Contents). c.synced) (after-append (start first) (take k log) (drop k log) bytes))
    ∙ ap (λ (l : List Call). (after (start first) l bytes).synced) (take-append-drop k log)

-- calls after the cut change the written ranges alone
pub record Covers (c d : Contents) : Type 0 where
  pub synced : c.synced ≡ d.synced
  pub shown : c.shown ≡ d.shown
  pub outside : (i : ℕ) → IsOutside d.written i → IsOutside c.written i
  pub none : d.written ≡ [] → c.written ≡ []

covers_push : (c d : Contents) (range : ℕ × ℕ) (shown : List ℕ) → Covers c d → Covers (record { synced = c.synced; written = range ∷ c.written; shown = shown }) (record { synced = d.synced; written = range ∷ d.written; shown = shown })
covers_push c d range shown covers = record { synced = covers.synced; shown = refl; outside = λ i out. (out.0, covers.outside i out.1); none = λ is. cc }

covers_step : (c d : Contents) (call : Call) (bytes : List ℕ) → Covers c d → Covers (step_to_cut c call bytes) (step d call bytes)
covers_step c d (Write place len) bytes covers =
    subst (λ (l : List ℕ). Covers (record { synced = c.synced; written = (place, len) ∷ c.written; shown = overwrite c.shown place (take len bytes) }) (record { synced = d.synced; written = (place, len) ∷ d.written; shown = l })) (ap (λ (l : List ℕ). overwrite l place (take len bytes)) covers.shown) (covers_push c d (place, len) (overwrite c.shown place (take len bytes)) covers)
covers_step c d (Blank place len) bytes covers =
    subst (λ (l : List ℕ). Covers (record { synced = c.synced; written = (place, len) ∷ c.written; shown = c.shown }) (record { synced = d.synced; written = (place, len) ∷ d.written; shown = l })) covers.shown (covers_push c d (place, len) c.shown covers)
covers_step c d (Late place len) bytes covers = record { synced = covers.synced; shown = covers.shown; outside = λ i out. covers.outside i out.1; none = λ is. cc }
covers_step c d Sync bytes covers = record { synced = covers.shown; shown = covers.shown; outside = λ i out. out; none = λ is. refl }

covers_all : (c d : Contents) (log : List Call) (bytes : List ℕ) → Covers c d → Covers (at_cut c log bytes) (after d log bytes)
covers_all c d [] bytes covers = covers
covers_all c d (call ∷ log) bytes covers = covers_all (step_to_cut c call bytes) (step d call bytes) log (drop (taken call) bytes) (covers_step c d call bytes covers)

pub covers_log : (first bytes : List ℕ) (log : List Call) → Covers (at_cut (start first) log bytes) (after (start first) log bytes)
covers_log first bytes log = covers_all (start first) (start first) log bytes (record { synced = refl; shown = refl; outside = λ i out. out; none = λ is. is })

-- filled call by call, or range by range
filled_calls : (byte : ℕ) (c : Contents) (log : List Call) (bytes shown synced : List ℕ) → has_sync log ≡ false → shown ≡ filled byte c.written synced → fill_calls byte shown log ≡ filled byte (at_cut c log bytes).written synced
filled_calls byte c [] bytes shown synced none is = is
filled_calls byte c (Write place len ∷ log) bytes shown synced none is =
    filled_calls byte (step c (Write place len) bytes) log (drop len bytes) (overwrite shown place (replicate len byte)) synced none (ap (λ (l : List ℕ). overwrite l place (replicate len byte)) is)
filled_calls byte c (Blank place len ∷ log) bytes shown synced none is =
    filled_calls byte (step c (Blank place len) bytes) log (drop 0 bytes) (overwrite shown place (replicate len byte)) synced none (ap (λ (l : List ℕ). overwrite l place (replicate len byte)) is)
filled_calls byte c (Late place len ∷ log) bytes shown synced none is = filled_calls byte c log (drop 0 bytes) shown synced none is
filled_calls byte c (Sync ∷ log) bytes shown synced none is = cc

pub filled_is : (byte : ℕ) (first bytes synced : List ℕ) (log : List Call) (k : ℕ) → (0 < k → slice_get log (k - 1) ≡ Some Sync) → has_sync (drop k log) ≡ false → synced ≡ (after (start first) log bytes).synced
    → fill_calls byte synced (drop k log) ≡ survivor (Byte byte) (at_cut (start first) log bytes)
filled_is byte first bytes synced log k found none is =
    let mid = at_cut (start first) (take k log) bytes in
    let rest = drop (all_taken (take k log)) bytes in
    let whole : at_cut (start first) log bytes ≡ at_cut mid (drop k log) rest = ap (λ (l : List Call). at_cut (start first) l bytes) (sym (take-append-drop k log)) ∙ at_cut-append (start first) (take k log) (drop k log) bytes in
    filled_calls byte mid (drop k log) rest synced synced none (ap (λ (w : List (ℕ × ℕ)). filled byte w synced) (sym (none_written first bytes log k found)))
    ∙ ap (λ (c : Contents). filled byte c.written synced) (sym whole)
    ∙ ap (λ (l : List ℕ). filled byte (at_cut (start first) log bytes).written l) (is ∙ sym (covers_log first bytes log).synced)

-- what a crash may leave of contents with fewer ranges, it may leave of those with more
keeps_same : (ranges : List (ℕ × ℕ)) (bytes : List ℕ) → Leaves ranges bytes bytes
keeps_same [] bytes = refl
keeps_same (range ∷ ranges) bytes = record { no_shorter = omega arith; outside = λ i lt out. refl }

leaves_more : (few many : List (ℕ × ℕ)) (synced image : List ℕ) → ((i : ℕ) → IsOutside many i → IsOutside few i) → (many ≡ [] → few ≡ []) → Leaves few synced image → Leaves many synced image
leaves_more [] many synced image outside none left = subst (λ (l : List ℕ). Leaves many synced l) (sym left) (keeps_same many synced)
leaves_more (range ∷ few) [] synced image outside none left = (let h : range ∷ few ≡ [] = none refl in cc)
leaves_more (range ∷ few) (other ∷ many) synced image outside none left = record { no_shorter = left.no_shorter; outside = λ i lt out. left.outside i lt (outside i out) }

covered : (c d : Contents) (image : List ℕ) → Covers c d → MayLeave c image → MayLeave d image
covered c d image covers left = subst (λ (l : List ℕ). Leaves d.written l image) covers.synced (leaves_more c.written d.written c.synced image covers.outside covers.none left)

filled_keeps : (byte : ℕ) (ranges : List (ℕ × ℕ)) (bytes : List ℕ) → KeepsOutside ranges bytes (filled byte ranges bytes)
filled_keeps byte [] bytes = record { no_shorter = omega arith; outside = λ i lt out. refl }
filled_keeps byte (range ∷ ranges) bytes =
    let before = filled_keeps byte ranges bytes in
    let was : List ℕ = filled byte ranges bytes in
    let part = replicate range.1 byte in
    let size : length part ≡ range.1 = length-replicate range.1 byte in
    record {
      no_shorter = omega (arith, before.no_shorter, overwrite_long was range.0 part);
      outside = λ i lt out. outside_write was range.0 part i (omega (arith, lt, before.no_shorter)) (⊎_elim (λ low. inl low) (λ high. inr (omega (arith, high, size))) out.0) ∙ before.outside i lt out.1;
    }

filled_leaves : (byte : ℕ) (ranges : List (ℕ × ℕ)) (bytes : List ℕ) → Leaves ranges bytes (filled byte ranges bytes)
filled_leaves byte [] bytes = refl
filled_leaves byte (range ∷ ranges) bytes = filled_keeps byte (range ∷ ranges) bytes

survivor_left : (fill : Fill) (c : Contents) → MayLeave c c.shown → MayLeave c (survivor fill c)
survivor_left Old c shows = keeps_same c.written c.synced
survivor_left New c shows = shows
survivor_left (Byte byte) c shows = filled_leaves byte c.written c.synced

shows_at_cut : (first bytes : List ℕ) (log : List Call) → Covers (at_cut (start first) log bytes) (after (start first) log bytes) → MayLeave (at_cut (start first) log bytes) (at_cut (start first) log bytes).shown
shows_at_cut first bytes log covers = at_cut_shows (start first) log bytes refl
  where
    one_more : (c : Contents) (call : Call) (b : List ℕ) → MayLeave c c.shown → MayLeave (step_to_cut c call b) (step_to_cut c call b).shown
    one_more c (Write place len) b shows = shows_one_after c (Write place len ∷ []) b shows
    one_more c (Blank place len) b shows = shows_one_after c (Blank place len ∷ []) b shows
    one_more c (Late place len) b shows = shows
    one_more c Sync b shows = refl

    at_cut_shows : (c : Contents) (l : List Call) (b : List ℕ) → MayLeave c c.shown → MayLeave (at_cut c l b) (at_cut c l b).shown
    at_cut_shows c [] b shows = shows
    at_cut_shows c (call ∷ l) b shows = at_cut_shows (step_to_cut c call b) l (drop (taken call) b) (one_more c call b shows)

-- what a restart finds is an image that a crash may leave
pub restart_left : (cut : Option Fill) (first bytes : List ℕ) (log : List Call) → MayLeave (after (start first) log bytes) (restart_of cut first log bytes)
restart_left None first bytes log = shows_one_after (start first) log bytes refl
restart_left (Some fill) first bytes log =
    let covers = covers_log first bytes log in
    covered (at_cut (start first) log bytes) (after (start first) log bytes) (survivor fill (at_cut (start first) log bytes)) covers (survivor_left fill (at_cut (start first) log bytes) (shows_at_cut first bytes log covers))

lens-append : (front log : List Call) → lens (front ++ log) ≡ lens front + lens log
lens-append [] log = omega arith
lens-append (call ∷ front) log = omega (arith, lens-append front log)

pub lens_split : (k : ℕ) (log : List Call) → lens (take k log) + lens (drop k log) ≡ lens log
lens_split k log = sym (lens-append (take k log) (drop k log)) ∙ ap lens (take-append-drop k log)

all_taken-append : (front log : List Call) → all_taken (front ++ log) ≡ all_taken front + all_taken log
all_taken-append [] log = omega arith
all_taken-append (call ∷ front) log = omega (arith, all_taken-append front log)

pub taken_split : (k : ℕ) (log : List Call) → all_taken (take k log) + all_taken (drop k log) ≡ all_taken log
taken_split k log = sym (all_taken-append (take k log) (drop k log)) ∙ ap all_taken (take-append-drop k log)
