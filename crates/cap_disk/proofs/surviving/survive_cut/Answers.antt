use Rattle.std.proofs.Common.{◌≡◌, ◌-◌, ℕ, List, length, take, drop, sym, ◌∙◌, ap, arith, length-drop}
use Rattle.std.proofs.lemmas.List.{take_all}
use Rattle.cap_disk.specs.Survivor.{at_cut, survivor, fill_calls}
use Rattle.cap_disk.specs.History.{start}
use Rattle.cap_disk.proofs.Survivals.{covers_log, filled_is}
use Rattle.cap_disk.specs.declared.arming.Fill.{Fill}
use Rattle.cap_disk.specs.declared.arming.Fill.TheVariants.{Old, New, Byte}
use Rattle.cap_disk.specs.declared.recorded.Call.{Call}
use Rattle.cap_disk.proofs.surviving.survive_cut.Goals as goal

by_fill : (first bytes : List ℕ) (log : List Call) (fill fill' : Fill) → fill ≡ fill' → survivor fill' (at_cut (start first) log bytes) ≡ survivor fill (at_cut (start first) log bytes)
by_fill first bytes log fill fill' is = ap (λ (f : Fill). survivor f (at_cut (start first) log bytes)) (sym is)

tail_is : (log : List Call) (last : ℕ) → take (length log - last) (drop last log) ≡ drop last log
tail_is log last = take_all (length log - last) (drop last log) (omega (arith, length-drop last log))

pub returns-in-Old-clause-first : goal.returns-in-Old-clause-first
returns-in-Old-clause-first c =
    let is : c.args.fill ≡ Old = c.in-Old.is in
    c.settle.ensures.items ∙ sym (covers_log c.args.first.now.items c.args.bytes.now c.args.log.now).synced
    ∙ by_fill c.args.first.now.items c.args.bytes.now c.args.log.now c.args.fill Old is

pub returns-in-Old-clause-shown : goal.returns-in-Old-clause-shown
returns-in-Old-clause-shown c =
    let is : c.args.fill ≡ Old = c.in-Old.is in
    c.copy_over-in-Old.ensures.items ∙ c.as_slice-in-Old.ensures.value ∙ c.settle.ensures.items ∙ sym (covers_log c.args.first.now.items c.args.bytes.now c.args.log.now).synced
    ∙ by_fill c.args.first.now.items c.args.bytes.now c.args.log.now c.args.fill Old is

pub returns-in-Byte-clause-first : goal.returns-in-Byte-clause-first
returns-in-Byte-clause-first c =
    let byte : ℕ = c.in-Byte.byte in
    let is : c.args.fill ≡ Byte byte = c.in-Byte.is in
    let s = c.settle-last in
    c.fill_ranges.ensures.items ∙ ap (λ (l : List Call). fill_calls byte s.new.first.items l) (tail_is c.args.log.now s.result)
    ∙ filled_is byte c.args.first.now.items c.args.bytes.now s.new.first.items c.args.log.now s.result s.ensures.found s.ensures.rest s.ensures.items
    ∙ by_fill c.args.first.now.items c.args.bytes.now c.args.log.now c.args.fill (Byte byte) is

pub returns-in-Byte-clause-shown : goal.returns-in-Byte-clause-shown
returns-in-Byte-clause-shown c =
    let byte : ℕ = c.in-Byte.byte in
    let is : c.args.fill ≡ Byte byte = c.in-Byte.is in
    let s = c.settle-last in
    c.copy_over-in-Byte.ensures.items ∙ c.as_slice-in-Byte.ensures.value
    ∙ c.fill_ranges.ensures.items ∙ ap (λ (l : List Call). fill_calls byte s.new.first.items l) (tail_is c.args.log.now s.result)
    ∙ filled_is byte c.args.first.now.items c.args.bytes.now s.new.first.items c.args.log.now s.result s.ensures.found s.ensures.rest s.ensures.items
    ∙ by_fill c.args.first.now.items c.args.bytes.now c.args.log.now c.args.fill (Byte byte) is

pub returns-in-New-clause-shown : goal.returns-in-New-clause-shown
returns-in-New-clause-shown c =
    let is : c.args.fill ≡ New = c.in-New.is in
    c.requires.agrees ∙ sym (covers_log c.args.first.now.items c.args.bytes.now c.args.log.now).shown
    ∙ by_fill c.args.first.now.items c.args.bytes.now c.args.log.now c.args.fill New is

pub returns-in-New-clause-first : goal.returns-in-New-clause-first
returns-in-New-clause-first c =
    let is : c.args.fill ≡ New = c.in-New.is in
    c.copy_over.ensures.items ∙ c.as_slice.ensures.value ∙ c.requires.agrees ∙ sym (covers_log c.args.first.now.items c.args.bytes.now c.args.log.now).shown
    ∙ by_fill c.args.first.now.items c.args.bytes.now c.args.log.now c.args.fill New is
