use Rattle.std.proofs.Common.{◌≡◌, ℕ, List, [], ◌∷◌, length, IsTrue, refl, sym, ◌∙◌, ap, subst, arith}
use Rattle.cap_disk.specs.Disk.{Contents, MayLeave, KeepsOutside, all_synced}
use Rattle.cap_disk.specs.Moments.{started, goes_on, leaves_one, leaves_none}
use Rattle.cap_journal.proofs.group.write_synced.Goals as goal

keeps_self : (ranges : List (ℕ × ℕ)) (bytes image : List ℕ) → image ≡ bytes → KeepsOutside ranges bytes image
keeps_self ranges bytes image is = subst (λ l. KeepsOutside ranges bytes l) (sym is) (record { no_shorter = omega arith; outside = λ i lt outside. refl })

pub returns-in_err-sync-clause-any_moment : goal.returns-in_err-sync-clause-any_moment
returns-in_err-sync-clause-any_moment g c tells =
    let old_disk = c.args.disk.now in
    let written_disk = c.write_at.new.self in
    let synced_disk = c.sync.new.self in
    let shown = (g.D.Disk.contents old_disk).shown in
    let range : ℕ × ℕ = (c.args.place, length c.args.bytes.now) in
    let P : List ℕ → Type 0 = KeepsOutside (range ∷ []) shown in
    let settled = c.requires.settled tells in
    let written = c.write_at.ensures.written tells in
    let written_tells : IsTrue (g.D.Disk.tells written_disk) = subst IsTrue (sym c.write_at.ensures.tells) tells in
    let old_here = λ (image : List ℕ) (left : g.D.Disk.left_since old_disk (g.D.Disk.moment old_disk) image). keeps_self (range ∷ []) shown image (leaves_none (g.D.Disk.contents old_disk) image settled.nothing_written (g.met.D.Disk.only_now old_disk image tells left) ∙ settled.same) in
    let written_here = λ (image : List ℕ) (left : MayLeave (g.D.Disk.contents written_disk) image). leaves_one (g.D.Disk.contents written_disk) range shown image (written.written ∙ ap (λ (l : List (ℕ × ℕ)). range ∷ l) settled.nothing_written) (written.synced ∙ settled.same) left in
    let old_run = started g.D.Disk.moment g.D.Disk.left_since old_disk P old_here in
    let written_run = goes_on g.D.Disk.moment g.D.Disk.left_since old_disk old_disk written_disk P _ old_run (c.write_at.ensures.time tells) written_here in
    goes_on g.D.Disk.moment g.D.Disk.left_since old_disk written_disk synced_disk P _ written_run (c.sync.ensures.time written_tells) (λ image left. written_here image (subst (λ (k : Contents). MayLeave k image) (c.in_err-sync.ensures.failed written_tells) left))

pub returns-clause-any_moment : goal.returns-clause-any_moment
returns-clause-any_moment g c tells =
    let old_disk = c.args.disk.now in
    let written_disk = c.write_at.new.self in
    let synced_disk = c.sync.new.self in
    let shown = (g.D.Disk.contents old_disk).shown in
    let range : ℕ × ℕ = (c.args.place, length c.args.bytes.now) in
    let P : List ℕ → Type 0 = KeepsOutside (range ∷ []) shown in
    let settled = c.requires.settled tells in
    let written = c.write_at.ensures.written tells in
    let written_tells : IsTrue (g.D.Disk.tells written_disk) = subst IsTrue (sym c.write_at.ensures.tells) tells in
    let old_here = λ (image : List ℕ) (left : g.D.Disk.left_since old_disk (g.D.Disk.moment old_disk) image). keeps_self (range ∷ []) shown image (leaves_none (g.D.Disk.contents old_disk) image settled.nothing_written (g.met.D.Disk.only_now old_disk image tells left) ∙ settled.same) in
    let written_here = λ (image : List ℕ) (left : MayLeave (g.D.Disk.contents written_disk) image). leaves_one (g.D.Disk.contents written_disk) range shown image (written.written ∙ ap (λ (l : List (ℕ × ℕ)). range ∷ l) settled.nothing_written) (written.synced ∙ settled.same) left in
    let synced_here = λ (image : List ℕ) (left : MayLeave (g.D.Disk.contents synced_disk) image).
    (let is : image ≡ (g.D.Disk.contents written_disk).shown = leaves_none (all_synced (g.D.Disk.contents written_disk)) image refl (subst (λ (k : Contents). MayLeave k image) (c.in_ok-sync.ensures.synced written_tells) left) in
    written_here image (subst (λ (l : List ℕ). MayLeave (g.D.Disk.contents written_disk) l) (sym is) (g.met.D.Disk.shows_one written_disk written_tells))) in
    let old_run = started g.D.Disk.moment g.D.Disk.left_since old_disk P old_here in
    let written_run = goes_on g.D.Disk.moment g.D.Disk.left_since old_disk old_disk written_disk P _ old_run (c.write_at.ensures.time tells) written_here in
    goes_on g.D.Disk.moment g.D.Disk.left_since old_disk written_disk synced_disk P _ written_run (c.sync.ensures.time written_tells) synced_here
