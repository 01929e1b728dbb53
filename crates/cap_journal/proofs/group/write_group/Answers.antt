use Rattle.std.proofs.Common.{inl, inr, ◌+◌, [], ◌∷◌, length, take, drop, slice_index, IsTrue, sym, subst}
use Rattle.cap_disk.specs.Disk.{KeepsOutside}
use Rattle.cap_disk.specs.Moments.{joined, weaker}
use Rattle.cap_journal.specs.Group.{HasGateOrGroup}
use Rattle.cap_journal.proofs.Writes.{before_gate, staged, behind_gate, length_front}
use Rattle.cap_journal.proofs.group.write_group.Goals as goal

pub returns-in_err-write_synced-clause-any_moment : goal.returns-in_err-write_synced-clause-any_moment
returns-in_err-write_synced-clause-any_moment g c tells =
    let old_disk = c.args.disk.now in
    let group_disk = c.write_synced.new.disk in
    let shown = (g.D.Disk.contents old_disk).shown in
    let end = c.args.end in
    let group = c.args.group.now in
    weaker g.D.Disk.moment g.D.Disk.left_since old_disk group_disk (KeepsOutside ((end + 1, length group) ∷ []) shown) (HasGateOrGroup (take end shown) (slice_index shown end) group) (c.write_synced.ensures.any_moment tells)
    (λ image keeps. inl (before_gate shown image end (length group) (c.requires.gate tells) keeps))

pub returns-in_err-write_synced-2-clause-any_moment : goal.returns-in_err-write_synced-2-clause-any_moment
returns-in_err-write_synced-2-clause-any_moment g c tells =
    let old_disk = c.args.disk.now in
    let group_disk = c.write_synced.new.disk in
    let gate_disk = c.write_synced-2.new.disk in
    let shown = (g.D.Disk.contents old_disk).shown in
    let group_shown = (g.D.Disk.contents group_disk).shown in
    let end = c.args.end in
    let group = c.args.group.now in
    let group_tells : IsTrue (g.D.Disk.tells group_disk) = subst IsTrue (sym c.write_synced.ensures.tells) tells in
    let lt = c.requires.gate tells in
    let is = staged shown group group_shown end lt (c.in_ok-write_synced.ensures.shown tells) in
    joined g.D.Disk.moment g.D.Disk.left_since old_disk group_disk gate_disk (KeepsOutside ((end + 1, length group) ∷ []) shown) (KeepsOutside ((end, 1) ∷ []) group_shown) (HasGateOrGroup (take end shown) (slice_index shown end) group)
    (c.write_synced.ensures.any_moment tells) (c.write_synced-2.ensures.any_moment group_tells)
    (λ image keeps. inl (before_gate shown image end (length group) lt keeps))
    (λ image keeps. inr (behind_gate (take end shown) group (drop (end + 1 + length group) shown) group_shown image (slice_index shown end) end (length_front shown end lt) is keeps))

pub returns-clause-any_moment : goal.returns-clause-any_moment
returns-clause-any_moment g c tells =
    let old_disk = c.args.disk.now in
    let group_disk = c.write_synced.new.disk in
    let gate_disk = c.write_synced-2.new.disk in
    let shown = (g.D.Disk.contents old_disk).shown in
    let group_shown = (g.D.Disk.contents group_disk).shown in
    let end = c.args.end in
    let group = c.args.group.now in
    let group_tells : IsTrue (g.D.Disk.tells group_disk) = subst IsTrue (sym c.write_synced.ensures.tells) tells in
    let lt = c.requires.gate tells in
    let is = staged shown group group_shown end lt (c.in_ok-write_synced.ensures.shown tells) in
    joined g.D.Disk.moment g.D.Disk.left_since old_disk group_disk gate_disk (KeepsOutside ((end + 1, length group) ∷ []) shown) (KeepsOutside ((end, 1) ∷ []) group_shown) (HasGateOrGroup (take end shown) (slice_index shown end) group)
    (c.write_synced.ensures.any_moment tells) (c.write_synced-2.ensures.any_moment group_tells)
    (λ image keeps. inl (before_gate shown image end (length group) lt keeps))
    (λ image keeps. inr (behind_gate (take end shown) group (drop (end + 1 + length group) shown) group_shown image (slice_index shown end) end (length_front shown end lt) is keeps))
