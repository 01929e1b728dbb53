use Rattle.std.proofs.Common.{◌≡◌, ◌++◌, ◌∷◌, [], ◌∙◌, refl, sym, ap, subst, length, ℕ, List, Some}
use Rattle.cap_entries.specs.declared.host.HostEntry.{HostEntry}
use Rattle.cap_entries.specs.declared.host.HostEntry.TheVariants.{Setup, Published}
use Rattle.cap_entries.specs.HostAllowed.{host_allowed}
use Rattle.cap_host.specs.declared.tables.Tables.{Tables}
use Rattle.cap_host.specs.Tables.{TablesTie}
use Rattle.cap_host.proofs.Tabled.{tie_setup, tie_published}
use Rattle.cap_host.proofs.tables.Tables.take.Goals as goal

pub returns-in_ok-self-in-Setup : goal.returns-in_ok-self-in-Setup
returns-in_ok-self-in-Setup c = λ entries tie is ok.
    let old = c.args.self.now in
    let made = c.in_ok-self-in-Setup in
    let new : Tables = record { alloc = old.alloc; setup = Some c.in-Setup.setup; logs = made.field-0; sets = old.sets } in
    let wide : length made.field-0.items ≡ length c.in-Setup.setup.terminals = made.ensures.len ∙ ap (λ (l : List (List ℕ)). length l) (c.as_slice-count.ensures.names ∙ c.terminals.ensures.value) in
    subst (λ (e : HostEntry). TablesTie (entries ++ e ∷ []) new) (sym c.in-Setup.is)
    (tie_setup entries old new c.in-Setup.setup tie (ap (host_allowed entries) (sym c.in-Setup.is) ∙ ok) refl refl wide made.ensures.empty)

pub returns-in_ok-push-in-Published : goal.returns-in_ok-push-in-Published
returns-in_ok-push-in-Published c = λ entries tie is ok.
    let old = c.args.self.now in
    let new : Tables = record { alloc = old.alloc; setup = old.setup; logs = old.logs; sets = c.push.new.self } in
    subst (λ (e : HostEntry). TablesTie (entries ++ e ∷ []) new) (sym c.in-Published.is)
    (tie_published entries old new c.in-Published.version c.in-Published.rows tie (ap (host_allowed entries) (sym c.in-Published.is) ∙ ok) refl refl c.in_ok-push-in-Published.ensures.items)
