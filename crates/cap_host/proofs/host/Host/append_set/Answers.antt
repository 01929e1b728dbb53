use Rattle.std.proofs.Common.{◌≡◌, ℕ, ◌+◌, ◌++◌, ◌∷◌, [], ◌∙◌, sym, ap, subst, arith, length, List}
use Rattle.cap_base.specs.declared.parameters.Row.{Row}
use Rattle.cap_entries.specs.declared.host.HostEntry.{HostEntry}
use Rattle.cap_entries.specs.declared.host.HostEntry.TheVariants.{Published}
use Rattle.cap_entries.specs.Log.{published}
use Rattle.cap_ledger.specs.Ledger.{entries_in}
use Rattle.cap_host.specs.Host.{entries_of}
use Rattle.cap_host.specs.Ties.{HostTies}
use Rattle.cap_host.proofs.TiesLaws.{ties_published}
use Rattle.cap_host.proofs.host.Host.append_set.Goals as goal

pub invariant_of-self : goal.invariant_of-self
invariant_of-self g c =
    let host = c.args.self.now in
    let entries = entries_of host in
    let adds = c.in-Ok.ensures.adds in
    let many : length host.sets.items ≡ length (published entries) = ap (λ (l : List (List Row)). length l) host.ties.sets_are in
    let tied = ties_published entries host.setup host.sets.items host.logs.items c.args.rows host.ties (omega (arith, many, c.requires.may.few)) in
    let grown : entries_in c.add.new.self ≡ entries ++ Published (length host.sets.items + 1) c.args.rows ∷ [] =
    adds.grown host.readable ∙ ap (λ (n : ℕ). entries ++ Published n c.args.rows ∷ []) (omega (arith, many, c.newest-version.ensures)) in
    let sets : c.push_reserved.new.self.items ≡ host.sets.items ++ c.args.rows ∷ [] = c.push_reserved.ensures.items ∙ ap (λ (r : List Row). host.sets.items ++ r ∷ []) c.requires.copy in
    record {
      named = host.named;
      wide = host.wide;
      readable = adds.stays.is_readable ∙ host.readable;
      ties =
          subst (λ (es : List HostEntry). HostTies es host.setup c.push_reserved.new.self.items host.logs.items) (sym grown)
          (subst (λ (l : List (List Row)). HostTies (entries ++ Published (length host.sets.items + 1) c.args.rows ∷ []) host.setup l host.logs.items) (sym sets) tied);
    }
