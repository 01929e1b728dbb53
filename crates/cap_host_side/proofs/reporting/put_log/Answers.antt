use Rattle.std.proofs.Common.{◌≡◌, List, ◌++◌, length, None, refl, ◌∙◌, ap}
use Rattle.cap_power.specs.Images.{images_of}
use Rattle.cap_power.specs.contracts.host.HostDiskJournalHostEntryMemoryDiskOverDiskHostEntry.TheImpl.{ghosts as ends}
use Rattle.cap_power.specs.declared.power.Power.TheVariants.{On}
use Rattle.cap_entries.specs.declared.host.HostEntry.{HostEntry}
use Rattle.cap_entries.specs.Log.{log}
use Rattle.cap_host.specs.Host.{entries_of}
use Rattle.cap_host_lines.specs.Logs.{log_text}
use Rattle.cap_journal.specs.File.{Has}
use Rattle.cap_entries.specs.HostRecord.{host_reading}
use Rattle.cap_host_side.proofs.Powers.{stands_at, works_at}
use Rattle.cap_host_side.proofs.Ready.{behind, ready_to_act}
use Rattle.cap_host_side.proofs.Told.{end_doubted}
use Rattle.cap_host_side.proofs.reporting.put_log.Goals as goal

pub returns-in-On-clause-works : goal.returns-in-On-clause-works
returns-in-On-clause-works c = c.in_ok-len-in-On.ensures.keeps.works ∙ works_at ends.has_failed _ c.in-On.host c.in-On.ensures.taken c.requires.works

pub returns-in-On-clause-text : goal.returns-in-On-clause-text
returns-in-On-clause-text c = λ most s doubt room stands on.
    let host = c.in-On.host in
    let now = c.put_log_at.new.host in
    let here = stands_at ends.entries ends.disk ends.has_failed most _ (On host) s doubt c.in-On.ensures.taken stands in
    let counting = here.ready.1 in
    let ready = ready_to_act host host s None most counting.calls doubt (images_of (ends.disk host)) refl here.ready.0 counting.is counting.few room tt here.stands refl (λ image left. left) in
    let after = c.in_ok-len-in-On.ensures.keeps.ready s None (behind None counting.calls) ready in
    let settled : entries_of host ≡ s.settled = here.stands.entries_are refl in (
      record {
        stands = end_doubted (Has host_reading) (images_of (ends.disk now)) (ends.entries now) s.settled s.tried s.on doubt after.stands;
        ready = (after.working.works, record { calls = counting.calls; few = counting.few; is = after.working.counts_are });
      },
      c.in_ok-len-in-On.ensures.text ∙ ap (λ (l : List HostEntry). c.args.text.now.items ++ log_text c.args.id.now (log l c.args.place)) settled,
      c.in_ok-len-in-On.ensures.len ∙ ap (λ (l : List HostEntry). length (log l c.args.place)) settled,
    )
