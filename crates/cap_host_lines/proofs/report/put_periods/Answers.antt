use Rattle.std.proofs.Common.{◌∙◌, sym, arith, append-nil}
use Rattle.cap_entries.specs.Log.{log}
use Rattle.cap_host.specs.Host.{entries_of}
use Rattle.cap_host_lines.proofs.Logs.{logs_fit_in, is_closed, is_open, few_closings, period_more, periods_done}
use Rattle.cap_host_lines.proofs.report.put_periods.Goals as goal

pub loop-q-init : goal.loop-q-init
loop-q-init g c = record { few = omega arith; text_is = sym (append-nil c.args.text.now.items) }

pub loop-q-preserved : goal.loop-q-preserved
loop-q-preserved g c =
    let own = log (entries_of c.args.host.now) c.args.place in
    let inv = c.loop-q.invariant in
    let fit = logs_fit_in (entries_of c.args.host.now) c.args.place c.setup.ensures.legal in
    let closed = is_closed own c.loop-q.q c.in-Some.totals fit (sym c.totals.ensures ∙ c.in-Some.is) in
    record {
      few = omega (arith, closed.0);
      text_is = period_more c.args.id.now own c.loop-q.q c.in-Some.totals c.args.text.now.items c.loop-q.text.items c.put_period.new.text.items inv.text_is c.in_ok-put_period-in-Some.ensures closed.1;
    }

pub returns-in-None : goal.returns-in-None
returns-in-None g c =
    let own = log (entries_of c.args.host.now) c.args.place in
    let inv = c.loop-q.invariant in
    let fit = logs_fit_in (entries_of c.args.host.now) c.args.place c.setup.ensures.legal in
    periods_done c.args.id.now own c.loop-q.q c.args.text.now.items c.loop-q.text.items fit inv.few (is_open own c.loop-q.q fit (sym c.totals.ensures ∙ c.in-None.is)) inv.text_is

pub returns : goal.returns
returns g c =
    let own = log (entries_of c.args.host.now) c.args.place in
    let inv = c.loop-q.invariant in
    let fit = logs_fit_in (entries_of c.args.host.now) c.args.place c.setup.ensures.legal in
    let value = c.log_len-len.ensures.value in
    periods_done c.args.id.now own c.loop-q.q c.args.text.now.items c.loop-q.text.items fit inv.few (omega (arith, few_closings own, value, c.loop-q-test.false)) inv.text_is
