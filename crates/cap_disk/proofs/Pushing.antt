-- What one recorded call more does.
use Rattle.std.specs.Prelude.{◌≡◌, ◌⊎◌, ℕ, zero, suc, ◌+◌, ◌≤◌, List, [], ◌∷◌, ◌++◌, length, take, drop, Result, Ok, Err, OnOk, OnErr}
use Rattle.std.proofs.Common.{inl, inr, ⊎_elim, refl, sym, ◌∙◌, ap, subst, arith, length-append, append_assoc, length-take, length-drop}
use Rattle.std.proofs.lemmas.List.{take-append-le, drop-append-le, take_at, drop_at, take_all}
use Rattle.cap_disk.specs.Disk.{Contents, MayLeave, overwrite, Elapses, Writes, Torn}
use Rattle.cap_disk.specs.History.{start, step, taken, all_taken, after, LeftSince, length_overwrite, overwrite_long, len_of, lens, IsNoWrite}
use Rattle.cap_disk.specs.declared.recorded.Call.{Call}
use Rattle.cap_disk.specs.declared.recorded.Call.TheVariants.{Write, Blank, Late, Sync}

-- a call reads its own bytes alone
step_own : (c : Contents) (call : Call) (bytes new : List ℕ) → taken call ≤ length bytes → step c call (bytes ++ new) ≡ step c call bytes
step_own c (Write place len) bytes new le = ap (λ (l : List ℕ). record { synced = c.synced; written = (place, len) ∷ c.written; shown = overwrite c.shown place l }) (take-append-le len bytes new le)
step_own c (Blank place len) bytes new le = refl
step_own c (Late place len) bytes new le = refl
step_own c Sync bytes new le = refl

-- one call more, with its bytes
pub after_push : (c : Contents) (log : List Call) (bytes : List ℕ) (call : Call) (new : List ℕ) → all_taken log ≡ length bytes → after c (log ++ call ∷ []) (bytes ++ new) ≡ step (after c log bytes) call new
after_push c [] [] call new enough = refl
after_push c [] (b ∷ bytes) call new enough = absurd (omega arith)
after_push c (first ∷ log) bytes call new enough =
    ap (λ (d : Contents). after d (log ++ call ∷ []) (drop (taken first) (bytes ++ new))) (step_own c first bytes new (omega arith))
    ∙ ap (λ (l : List ℕ). after (step c first bytes) (log ++ call ∷ []) l) (drop-append-le (taken first) bytes new (omega arith))
    ∙ after_push (step c first bytes) log (drop (taken first) bytes) call new (omega (arith, enough, length-drop (taken first) bytes))

deeper : (c : Contents) (log : List Call) (bytes new : List ℕ) (first call : Call) (t : ℕ) (image : List ℕ) → taken first ≤ length bytes → LeftSince (step c first (bytes ++ new)) (log ++ call ∷ []) (drop (taken first) (bytes ++ new)) t image ≡ LeftSince (step c first bytes) (log ++ call ∷ []) (drop (taken first) bytes ++ new) t image
deeper c log bytes new first call t image le =
    ap (λ (d : Contents). LeftSince d (log ++ call ∷ []) (drop (taken first) (bytes ++ new)) t image) (step_own c first bytes new le)
    ∙ ap (λ (l : List ℕ). LeftSince (step c first bytes) (log ++ call ∷ []) l t image) (drop-append-le (taken first) bytes new le)

pub push_adds : (c : Contents) (log : List Call) (bytes : List ℕ) (call : Call) (new : List ℕ) (t : ℕ) (image : List ℕ) → all_taken log ≡ length bytes → t ≤ length log → LeftSince c (log ++ call ∷ []) (bytes ++ new) t image → LeftSince c log bytes t image ⊎ MayLeave (step (after c log bytes) call new) image
push_adds c [] [] call new zero image enough le left = left
push_adds c [] [] call new (suc t) image enough le left = absurd (omega arith)
push_adds c [] (b ∷ bytes) call new t image enough le left = absurd (omega arith)
push_adds c (first ∷ log) bytes call new zero image enough le (inl now) = inl (inl now)
push_adds c (first ∷ log) bytes call new zero image enough le (inr later) =
    ⊎_elim (λ was. inl (inr was)) (λ is. inr is) (push_adds (step c first bytes) log (drop (taken first) bytes) call new zero image (omega (arith, enough, length-drop (taken first) bytes)) (omega arith) (subst (λ T. T) (deeper c log bytes new first call zero image (omega arith)) later))
push_adds c (first ∷ log) bytes call new (suc t) image enough le left =
    push_adds (step c first bytes) log (drop (taken first) bytes) call new t image (omega (arith, enough, length-drop (taken first) bytes)) (omega arith) (subst (λ T. T) (deeper c log bytes new first call t image (omega arith)) left)

pub push_keeps : (c : Contents) (log : List Call) (bytes : List ℕ) (call : Call) (new : List ℕ) (t : ℕ) (image : List ℕ) → all_taken log ≡ length bytes → t ≤ length log → LeftSince c log bytes t image → LeftSince c (log ++ call ∷ []) (bytes ++ new) t image
push_keeps c [] [] call new zero image enough le left = inl left
push_keeps c [] [] call new (suc t) image enough le left = absurd (omega arith)
push_keeps c [] (b ∷ bytes) call new t image enough le left = absurd (omega arith)
push_keeps c (first ∷ log) bytes call new zero image enough le (inl now) = inl now
push_keeps c (first ∷ log) bytes call new zero image enough le (inr later) =
    inr (subst (λ T. T) (sym (deeper c log bytes new first call zero image (omega arith))) (push_keeps (step c first bytes) log (drop (taken first) bytes) call new zero image (omega (arith, enough, length-drop (taken first) bytes)) (omega arith) later))
push_keeps c (first ∷ log) bytes call new (suc t) image enough le left =
    subst (λ T. T) (sym (deeper c log bytes new first call t image (omega arith))) (push_keeps (step c first bytes) log (drop (taken first) bytes) call new t image (omega (arith, enough, length-drop (taken first) bytes)) (omega arith) left)

-- time goes on by a recorded call
pub elapses_push : (c : Contents) (log : List Call) (bytes : List ℕ) (call : Call) (new : List ℕ) → all_taken log ≡ length bytes → Elapses (length log) (length (log ++ call ∷ [])) (LeftSince c log bytes) (LeftSince c (log ++ call ∷ []) (bytes ++ new)) (MayLeave (after c (log ++ call ∷ []) (bytes ++ new)))
elapses_push c log bytes call new enough = record {
  later = omega (arith, length-append log (call ∷ []));
  nothing_else = λ t image le left. ⊎_elim (λ was. inl was) (λ is. inr (subst (λ (d : Contents). MayLeave d image) (sym (after_push c log bytes call new enough)) is)) (push_adds c log bytes call new t image enough le left);
  keeps = λ t image le left. push_keeps c log bytes call new t image enough le left;
}

-- the same of a log with one call more
pub after_to : (first first' : List ℕ) (log log' : List Call) (bytes bytes' : List ℕ) (call : Call) (new : List ℕ) → first' ≡ first → log' ≡ log ++ call ∷ [] → bytes' ≡ bytes ++ new → all_taken log ≡ length bytes → after (start first') log' bytes' ≡ step (after (start first) log bytes) call new
after_to first first' log log' bytes bytes' call new is_first is_log is_bytes enough =
    ap (λ (l : List ℕ). after (start l) log' bytes') is_first ∙ ap (λ (l : List Call). after (start first) l bytes') is_log ∙ ap (λ (l : List ℕ). after (start first) (log ++ call ∷ []) l) is_bytes ∙ after_push (start first) log bytes call new enough

pub elapses_to : (first first' : List ℕ) (log log' : List Call) (bytes bytes' : List ℕ) (call : Call) (new : List ℕ) → first' ≡ first → log' ≡ log ++ call ∷ [] → bytes' ≡ bytes ++ new → all_taken log ≡ length bytes → Elapses (length log) (length log') (LeftSince (start first) log bytes) (LeftSince (start first') log' bytes') (MayLeave (after (start first') log' bytes'))
elapses_to first first' log log' bytes bytes' call new is_first is_log is_bytes enough =
    subst (λ (f : List ℕ). Elapses (length log) (length log') (LeftSince (start first) log bytes) (LeftSince (start f) log' bytes') (MayLeave (after (start f) log' bytes'))) (sym is_first)
    (subst (λ (l : List Call). Elapses (length log) (length l) (LeftSince (start first) log bytes) (LeftSince (start first) l bytes') (MayLeave (after (start first) l bytes'))) (sym is_log)
    (subst (λ (b : List ℕ). Elapses (length log) (length (log ++ call ∷ [])) (LeftSince (start first) log bytes) (LeftSince (start first) (log ++ call ∷ []) b) (MayLeave (after (start first) (log ++ call ∷ []) b))) (sym is_bytes)
    (elapses_push (start first) log bytes call new enough)))

all_taken-push : (log : List Call) (call : Call) → all_taken (log ++ call ∷ []) ≡ all_taken log + taken call
all_taken-push [] call = omega arith
all_taken-push (first ∷ log) call = omega (arith, all_taken-push log call)

pub kept_to : (log log' : List Call) (bytes bytes' : List ℕ) (call : Call) (new : List ℕ) → log' ≡ log ++ call ∷ [] → bytes' ≡ bytes ++ new → taken call ≡ length new → all_taken log ≡ length bytes → all_taken log' ≡ length bytes'
kept_to log log' bytes bytes' call new is_log is_bytes own enough =
    ap all_taken is_log ∙ all_taken-push log call ∙ omega (arith, own, enough, length-append bytes new) ∙ sym (ap length is_bytes)

on_ok : {T E : Type 0} (r : Result T E) (P : Type 0) → P → OnOk r P
on_ok (Ok v) P p = p
on_ok (Err e) P p = tt

on_err : {T E : Type 0} (r : Result T E) (P : Type 0) → P → OnErr r P
on_err (Ok v) P p = tt
on_err (Err e) P p = p

torn_write : (old : List ℕ) (place : ℕ) (bytes : List ℕ) → place ≤ length old → Torn place (length bytes) old (overwrite old place bytes)
torn_write old place bytes le =
    let size : length (take place old) ≡ place = omega (arith, length-take place old) in
    record {
      before = ap (λ (l : List ℕ). take place l) (append_assoc (take place old) bytes (drop (place + length bytes) old)) ∙ take_at (take place old) (bytes ++ drop (place + length bytes) old) place size;
      after = drop_at (take place old ++ bytes) (drop (place + length bytes) old) (place + length bytes) (omega (arith, size, length-append (take place old) bytes));
      no_shorter = overwrite_long old place bytes;
      no_longer = omega (arith, length_overwrite old place bytes);
    }

-- what a recorded write does
pub write_done : {T E : Type 0} (result : Result T E) (place : ℕ) (bytes : List ℕ) (old new : Contents) → place ≤ length old.shown → new ≡ step old (Write place (length bytes)) bytes → Writes place bytes result old new
write_done result place bytes old new le is =
    let shown : new.shown ≡ overwrite old.shown place bytes = ap (λ (k : Contents). k.shown) is ∙ ap (λ (l : List ℕ). overwrite old.shown place l) (take_all (length bytes) bytes (omega arith)) in
    record {
      synced = ap (λ (k : Contents). k.synced) is;
      written = ap (λ (k : Contents). k.written) is;
      shown = on_ok result (new.shown ≡ overwrite old.shown place bytes) shown;
      torn = on_err result (Torn place (length bytes) old.shown new.shown) (subst (λ (l : List ℕ). Torn place (length bytes) old.shown l) (sym shown) (torn_write old.shown place bytes le));
    }

pub blank_done : {T E : Type 0} (e : E) (place : ℕ) (bytes : List ℕ) (old new : Contents) → new ≡ step old (Blank place (length bytes)) [] → (let r : Result T E = Err e in Writes place bytes r old new)
blank_done e place bytes old new is =
    record {
      synced = ap (λ (k : Contents). k.synced) is;
      written = ap (λ (k : Contents). k.written) is;
      shown = tt;
      torn = subst (λ (l : List ℕ). Torn place (length bytes) old.shown l) (sym (ap (λ (k : Contents). k.shown) is)) (record { before = refl; after = refl; no_shorter = omega arith; no_longer = omega arith });
    }

pub lens_to : (log log' : List Call) (call : Call) → log' ≡ log ++ call ∷ [] → lens log' ≡ lens log + len_of call
lens_to log log' call is = ap lens is ∙ lens_push log
  where
    lens_push : (l : List Call) → lens (l ++ call ∷ []) ≡ lens l + len_of call
    lens_push [] = omega arith
    lens_push (one ∷ l) = omega (arith, lens_push l)

-- a call that writes nothing leaves what a read gives
pub same_shown : (c : Contents) (call : Call) → IsNoWrite call → (step c call []).shown ≡ c.shown
same_shown c (Write place len) quiet = absurd quiet
same_shown c (Blank place len) quiet = refl
same_shown c (Late place len) quiet = refl
same_shown c Sync quiet = refl

pub takes_none : (call : Call) → IsNoWrite call → taken call ≡ 0
takes_none (Write place len) quiet = absurd quiet
takes_none (Blank place len) quiet = refl
takes_none (Late place len) quiet = refl
takes_none Sync quiet = refl

-- with nothing recorded, no time goes by
pub elapses_none : (c : Contents) (log : List Call) (bytes : List ℕ) → Elapses (length log) (length log) (LeftSince c log bytes) (LeftSince c log bytes) (MayLeave (after c log bytes))
elapses_none c log bytes = record { later = omega arith; nothing_else = λ t image le left. inl left; keeps = λ t image le left. left }
