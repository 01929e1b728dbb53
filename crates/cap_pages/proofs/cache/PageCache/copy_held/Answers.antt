use Rattle.std.proofs.Common.{◌*◌, ◌++◌, ℕ, List, length, take, sym, ◌∙◌, ap, arith}
use Rattle.cap_pages.proofs.Paging.{found_is, promoted_are, part_of, laid_is}
use Rattle.cap_pages.specs.Cache.{pages_of}
use Rattle.cap_pages.proofs.cache.PageCache.copy_held.Goals as goal

pub returns-then-len-size-clause-bytes : goal.returns-then-len-size-clause-bytes
returns-then-len-size-clause-bytes c image are copied =
    let items : List ℕ = c.in-Some.page.now.items in
    let page_is = found_is (pages_of c.args.self.now) c.args.number c.in-Some.page.now image are (sym c.in-Some.ensures.value) in
    laid_is c.deref.result.now items c.lay.new.buf c.args.buf.now c.args.done c.args.from c.args.count c.deref.ensures.value (omega (arith, c.requires.within, c.if-len-size.true)) c.lay.ensures.front
    ∙ ap (λ (l : List ℕ). take c.args.done c.args.buf.now ++ l) (part_of items (length items) (4096 * c.args.number) c.args.from c.args.count image page_is (omega (arith, c.requires.within, c.if-len-size.true)))

pub returns-then-len-size-clause-pages : goal.returns-then-len-size-clause-pages
returns-then-len-size-clause-pages c image are = promoted_are (pages_of c.args.self.now) c.get.follows.lender-at-none.entries c.args.number image (ap (λ k. k.entries) c.get.follows.holds-at-none) are

pub returns-else-len-size-clause-pages : goal.returns-else-len-size-clause-pages
returns-else-len-size-clause-pages c image are = promoted_are (pages_of c.args.self.now) c.get.follows.lender-at-none.entries c.args.number image (ap (λ k. k.entries) c.get.follows.holds-at-none) are

pub returns-in-None-clause-pages : goal.returns-in-None-clause-pages
returns-in-None-clause-pages c image are = promoted_are (pages_of c.args.self.now) c.get.follows.lender-at-none.entries c.args.number image (ap (λ k. k.entries) c.get.follows.holds-at-none) are
