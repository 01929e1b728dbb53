use Rattle.std.proofs.Common.{◌≡◌, ℕ, List, length, ◌∙◌, ap, arith}
use Rattle.cap_leaf.specs.Date.{DateParts}
use Rattle.cap_entries.specs.RecordParts.{list_bytes, text_bytes}
use Rattle.cap_entries.specs.RecordField.{six_bytes, date_bytes}
use Rattle.cap_entries.proofs.Places.{host_size}
use Rattle.cap_entries.proofs.host_record.setup_size.Goals as goal

pub returns : goal.returns
returns c =
    let s = c.args.settings.now in
    let name : length c.as_bytes.result.now ≡ length s.host = ap length (c.as_bytes.ensures.text ∙ c.host-host.ensures.value) in
    let blocks : c.list_size-blocked.result ≡ length (list_bytes 0 six_bytes s.blocked) = c.list_size-blocked.ensures.value ∙ ap (λ (l : List (List ℕ)). length (list_bytes 0 six_bytes l)) (c.as_slice.ensures.prefixes ∙ c.blocked.ensures.value) in
    let start : c.date_size.result ≡ length (date_bytes s.start) = c.date_size.ensures.value ∙ ap (λ (d : DateParts). length (date_bytes d)) c.start.ensures.value in
    let names : c.list_size-terminals.result ≡ length (list_bytes 0 text_bytes s.terminals) = c.list_size-terminals.ensures.value ∙ ap (λ (l : List (List ℕ)). length (list_bytes 0 text_bytes l)) (c.as_slice-2.ensures.names ∙ c.terminals.ensures.value) in
    omega (arith, host_size s, name, blocks, start, names)
