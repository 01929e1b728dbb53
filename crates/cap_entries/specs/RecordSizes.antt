-- How long the fields of lists are.
use Rattle.std.proofs.Common.{◌≡◌, ℕ, ◌+◌, ◌*◌, ◌≤◌, Bool, true, List, [], ◌∷◌, ◌++◌, length, arith, length-append}
use Rattle.std.specs.List.{list_all, flat_map}
use Rattle.std.proofs.lemmas.Bool.{and_parts}
use Rattle.cap_base.specs.Text.{is_ident}
use Rattle.cap_base.specs.declared.parameters.Row.{Row}
use Rattle.cap_entries.specs.RecordParts.{text_bytes}
use Rattle.cap_entries.specs.RecordField.{is_row, row_bytes}
use Rattle.cap_entries.specs.RecordFieldLaws.{ident_most}

-- fields of at most 72 bytes each
pub each_most : {A : Type 0} (bytes_of : A → List ℕ) (test : A → Bool) → ((value : A) → test value ≡ true → length (bytes_of value) ≤ 72) → (list : List A) → list_all test list ≡ true → length (flat_map bytes_of list) ≤ 72 * length list
each_most bytes_of test low [] all = omega arith
each_most bytes_of test low (x ∷ list) all =
    let parts = and_parts (test x) (list_all test list) all in
    omega (arith, low x parts.0, each_most bytes_of test low list parts.1, length-append (bytes_of x) (flat_map bytes_of list))

pub row_most : (row : Row) → is_row row ≡ true → length (row_bytes row) ≤ 72
row_most row good =
    let parts = and_parts (is_ident row.key) (is_ident row.value) good in
    omega (arith, ident_most row.key parts.0, ident_most row.value parts.1, length-append (text_bytes row.key) (text_bytes row.value))
