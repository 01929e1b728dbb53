use Rattle.std.proofs.Common.{◌≡◌, ◌==◌, ℕ, true, List, length, ◌∙◌, subst}
use Rattle.std.specs.List.{list_all}
use Rattle.cap_base.specs.Text.{is_ident}
use Rattle.cap_leaf.specs.Date.{DateParts, is_date_time}
use Rattle.cap_entries.specs.RecordField.{is_amount}
use Rattle.cap_host_side.proofs.Begun.{fields_hold}
use Rattle.cap_host_side.proofs.starting.fields_fit.Goals as goal

pub returns : goal.returns
returns c =
    fields_hold c.args.setup.now c.host.ensures.rule
    (subst (λ (name : List ℕ). is_ident name ≡ true) c.host.ensures.value c.is_spelt.ensures)
    (subst (λ (amount : ℕ). is_amount amount ≡ true) c.limit.ensures.value c.is_amount.ensures)
    (subst (λ (prefixes : List (List ℕ)). list_all (λ prefix. length prefix == 6) prefixes ≡ true) (c.as_slice.ensures.prefixes ∙ c.blocked.ensures.value) c.are_of_six.ensures)
    (subst (λ (date : DateParts). is_date_time date ≡ true) c.start.ensures.value c.is_dated.ensures)
    (subst (λ (names : List (List ℕ)). list_all is_ident names ≡ true) (c.as_slice-2.ensures.names ∙ c.terminals.ensures.value) c.names_are_spelt.ensures)
