use Rattle.std.proofs.Common.{refl}
use Rattle.std.proofs.lemmas.Bool.{false≢true}
use Rattle.cap_plays.specs.Turns.{host_turn_of}
use Rattle.cap_power.specs.Images.{images_of}
use Rattle.cap_power.specs.contracts.host.HostDiskJournalHostEntryMemoryDiskOverDiskHostEntry.TheImpl.{ghosts as ends}
use Rattle.cap_power.specs.Prefixes.{armed_of, ended_of}
use Rattle.cap_host_side.proofs.Ready.{behind, ready_to_act}
use Rattle.cap_host_side.proofs.Settling.{line_given}
use Rattle.cap_host_side.proofs.side.act_at.Goals as goal

pub returns-clause-acts : goal.returns-clause-acts
returns-clause-acts c = λ reads most w doubt reader room given stands.
    let prefix = c.args.prefix in
    let counting = c.in_ok-host.ensures.counts most stands.ready.1 in
    let ready = ready_to_act c.args.host c.in_ok-host.host w.host prefix most counting.calls doubt (images_of (ends.disk c.args.host)) refl c.in_ok-host.ensures.works counting.is counting.few room
    c.in_ok-host.ensures.call stands.stands c.in_ok-host.ensures.entries c.in_ok-host.ensures.images in
    let acted = c.act_on-given.ensures.acts reads w (armed_of prefix) (ended_of prefix) (behind prefix counting.calls) reader given ready in
    let e = c.in_ok-settled.ensures in (
      acted.0,
      acted.1,
      line_given ends.disk prefix w.host (host_turn_of reads w c.args.moment acted.0 c.args.order.now) most counting.calls c.act_on-given.new.host c.act_on-given.result c.parted-said.result.0 c.parted-said.result.1 c.kept.result c.in_ok-settled.settled
          (λ image left. left, refl) counting.few acted.2 c.parted-said.ensures.outcome c.parted-said.ensures.reply c.kept.ensures (record {
            stays = e.stays;
            outcome = e.outcome;
            cut = e.cut;
            was_cut = e.was_cut;
            ready = e.ready;
            broken = e.broken;
            off = λ is. (let (left, off, by) = e.left is in (left, off));
            fault = e.fault;
            memory = λ is. false≢true (e.memory is);
          }),
    )
