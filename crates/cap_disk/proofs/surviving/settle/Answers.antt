use Rattle.std.proofs.Common.{◌∙◌, arith}
use Rattle.cap_disk.proofs.Survivals.{synced_is_laid, lens_split, taken_split}
use Rattle.cap_disk.proofs.surviving.settle.Goals as goal

pub lay_calls-requires-clause-own : goal.lay_calls-requires-clause-own
lay_calls-requires-clause-own c = omega (arith, taken_split c.last_sync-last.result c.args.log.now)

pub lay_calls-requires-clause-room : goal.lay_calls-requires-clause-room
lay_calls-requires-clause-room c = omega (arith, lens_split c.last_sync-last.result c.args.log.now)

pub returns-clause-items : goal.returns-clause-items
returns-clause-items c = c.lay_calls.ensures.items ∙ synced_is_laid c.args.first.now.items c.args.bytes.now c.args.log.now c.last_sync-last.result c.last_sync-last.ensures.found c.last_sync-last.ensures.rest

pub returns-clause-longest : goal.returns-clause-longest
returns-clause-longest c = omega (arith, lens_split c.last_sync-last.result c.args.log.now, c.lay_calls.ensures.longest)
