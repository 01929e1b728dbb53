use Rattle.std.proofs.Common.{◌∙◌}
use Rattle.cap_entries.proofs.Places.{setup_written}
use Rattle.cap_entries.proofs.host_record.put_setup.Goals as goal

pub returns-clause-items : goal.returns-clause-items
returns-clause-items c =
    setup_written _ _ _ _ _ _ _ _ c.args.settings.now _ _ _ _ _ _ (c.as_bytes.ensures.text ∙ c.host-host.ensures.value) (c.hundredths.ensures.value ∙ c.limit.ensures.value)
    (c.as_slice.ensures.prefixes ∙ c.blocked.ensures.value) c.poll.ensures.value c.start.ensures.value (c.as_slice-2.ensures.names ∙ c.terminals.ensures.value)
    c.put_small.ensures.items c.put_text.ensures.items c.put_number.ensures.items c.put_list.ensures.items c.put_number-2.ensures.items c.put_date.ensures.items c.put_list-2.ensures.items
