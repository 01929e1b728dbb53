use Rattle.std.proofs.Common.{◌≡◌, ◌≤◌, length, List, [], ◌∷◌, ◌++◌, true, sym, ap, subst, arith, ◌∙◌}
use Rattle.std.specs.Prelude.{count_by}
use Rattle.cap_entries.specs.declared.terminal.TermEntry.{TermEntry}
use Rattle.cap_entries.specs.Allowed.{allowed, is_legal}
use Rattle.cap_entries.specs.Entry.{is_any_begin, max_of}
use Rattle.cap_entries.specs.declared.terminal.TermEntry.TheVariants.{Begin}
use Rattle.cap_plain.specs.LegalLaws.{max_within}
use Rattle.cap_terminal.specs.Index.{TerminalIndex}
use Rattle.cap_terminal.specs.Live.{IsLive, next_sale}
use Rattle.cap_terminal.proofs.Growth.{all_allowed_of, begin_allowed}
use Rattle.cap_terminal.proofs.Live_laws.{begun_live}
use Rattle.cap_terminal.proofs.Room_laws.{sales_count}
use Rattle.cap_terminal.proofs.terminal.Terminal.add_begin.Goals as goal

pub reserve_and_add-requires-clause-allowed : goal.reserve_and_add-requires-clause-allowed
reserve_and_add-requires-clause-allowed g c =
    subst (λ (j : g.row.J.Denot). allowed (g.J.Journal.entries j) (Begin c.args.n c.args.amount c.args.account) ≡ true) (sym c.self.view_is)
    (begin_allowed (g.J.Journal.entries c.args.self.now) c.args.n c.args.amount c.args.account c.requires.next c.requires.within)

pub reserve_and_add-requires-clause-room : goal.reserve_and_add-requires-clause-room
reserve_and_add-requires-clause-room g c =
    let s = c.self.invariant.0 in
    let entries = g.J.Journal.entries c.self.inside.journal in
    let begun : length c.self.inside.index.sales.items ≡ count_by is_any_begin entries = sales_count entries c.self.inside.index s.indexed s.legal in
    let same : length c.make_sale_room.new.self.sales.items ≡ length c.self.inside.index.sales.items = ap (λ (x : TerminalIndex). length x.sales) c.in_ok-make_sale_room.ensures.view in
    let most : max_of entries ≤ 250000 = max_within entries (all_allowed_of entries s.legal) in
    let next : c.args.n ≡ next_sale entries = c.requires.next ∙ ap (λ (j : g.row.J.Denot). next_sale (g.J.Journal.entries j)) (sym c.self.view_is) in
    let within : c.args.n ≤ max_of entries = subst (λ (j : g.row.J.Denot). c.args.n ≤ max_of (g.J.Journal.entries j)) (sym c.self.view_is) c.requires.within in
    record {
      few = omega (arith, begun, same, most, next, within);
      room = c.in_ok-make_sale_room.ensures.room;
      sale_room = c.in_ok-make_sale_room.ensures.sale_room;
      noted = c.in_ok-make_sale_room.ensures.noted;
    }

pub returns-clause-live : goal.returns-clause-live
returns-clause-live g c =
    let s = c.self.invariant.0 in
    let old = c.args.self.now in
    let legal : is_legal (g.J.Journal.entries old) ≡ true = subst (λ (j : g.row.J.Denot). is_legal (g.J.Journal.entries j) ≡ true) c.self.view_is s.legal in
    subst (λ (l : List TermEntry). IsLive l c.args.n c.args.amount c.args.account) (sym (c.in-Ok.ensures.adds.grown s.readable))
    (subst (λ (l : List TermEntry). IsLive (l ++ Begin c.args.n c.args.amount c.args.account ∷ []) c.args.n c.args.amount c.args.account) (ap g.J.Journal.entries (sym c.self.view_is))
    (begun_live (g.J.Journal.entries old) c.args.n c.args.amount c.args.account legal c.requires.next c.requires.within))
