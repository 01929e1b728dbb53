use Rattle.std.proofs.Common.{ap}
use Rattle.cap_pages.proofs.Paging.{put_are}
use Rattle.cap_pages.proofs.cache.PageCache.keep.Goals as goal

pub returns-in-Ok-clause-pages : goal.returns-in-Ok-clause-pages
returns-in-Ok-clause-pages c image are is = put_are c.args.self.now.pages c.put.new.self.entries c.args.number c.args.page image (ap (λ k. k.entries) c.in-Ok.ensures.entries) are is
