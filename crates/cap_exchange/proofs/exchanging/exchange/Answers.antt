use Rattle.std.proofs.Common.{[], true, refl, arith}
use Rattle.cap_exchange.specs.Exchange.{seen}
use Rattle.cap_exchange.proofs.Talking.{ok_apart, err_apart, cut_before}
use Rattle.cap_exchange.proofs.exchanging.exchange.Goals as goal

pub returns-in_default-clause-cut : goal.returns-in_default-clause-cut
returns-in_default-clause-cut g c = (record { taken = []; put = [] }, cut_before _ c.args.text.now (seen g.L.Link c.args.link.now))

pub returns-in_default-new-clause-cut : goal.returns-in_default-new-clause-cut
returns-in_default-new-clause-cut g c = (record { taken = []; put = [] }, cut_before _ c.args.text.now (seen g.L.Link c.args.link.now))

pub returns-in-Ok-false-clause-made : goal.returns-in-Ok-false-clause-made
returns-in-Ok-false-clause-made g c =
    let e = c.in-Ok-false.ensures in (
      record { taken = []; put = [] },
      record {
        bytes = (refl, refl);
        talks = λ told. (e.stays told (ok_apart c.in-Ok-false.field-0 c.in-Ok-false.field-0-test), e.none told (cc c.in-Ok-false.field-0-test));
        rose = tt;
        later = record { port = e.cause.later; line = omega (arith, e.line) };
      },
    )

pub returns-in-Err-clause-made : goal.returns-in-Err-clause-made
returns-in-Err-clause-made g c =
    let e = c.in-Err.ensures in (
      record { taken = []; put = [] },
      record {
        bytes = (refl, refl);
        talks = λ told. e.stays told (err_apart c.in-Err.field-0 true);
        rose = e.cause.failed;
        later = record { port = e.cause.later; line = omega (arith, e.line) };
      },
    )
