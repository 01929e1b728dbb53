use Rattle.std.proofs.Common.{◌≡◌, ◌+◌, ◌*◌, ◌-◌, ◌≤◌, ◌/◌, ◌++◌, ℕ, List, length, take, drop, ◌∙◌, ap, arith}
use Rattle.cap_pages.proofs.Paging.{below, part_of, page_below, laid_is}
use Rattle.cap_pages.proofs.cache.PageCache.read_piece.Goals as goal

pub returns-then-copy_held-clause-bytes : goal.returns-then-copy_held-clause-bytes
returns-then-copy_held-clause-bytes g c told =
    let shown = (g.D.Disk.contents c.args.disk.now).shown in
    c.copy_held.ensures.bytes (take c.args.stable shown) (c.requires.pages told) c.if-copy_held.true
    ∙ ap (λ (l : List ℕ). take c.args.done c.args.buf.now ++ l) (below c.args.stable _ c.args.at c.min-count.result shown (omega arith) (omega arith))

pub returns-in_err-keep-clause-pages : goal.returns-in_err-keep-clause-pages
returns-in_err-keep-clause-pages g c told =
    let shown = (g.D.Disk.contents c.args.disk.now).shown in
    let page = c.in_ok-page.page in
    c.in_err-keep.ensures.pages (take c.args.stable shown) (c.if-copy_held.ensures.pages (take c.args.stable shown) (c.requires.pages told)) (page_below c.args.stable _ _ page.items shown (c.in_ok-page.ensures.bytes told) c.in_ok-page.ensures.size (omega arith))

pub returns-clause-pages : goal.returns-clause-pages
returns-clause-pages g c told =
    let shown = (g.D.Disk.contents c.args.disk.now).shown in
    let page = c.in_ok-page.page in
    c.in_ok-keep.ensures.pages (take c.args.stable shown) (c.if-copy_held.ensures.pages (take c.args.stable shown) (c.requires.pages told)) (page_below c.args.stable _ _ page.items shown (c.in_ok-page.ensures.bytes told) c.in_ok-page.ensures.size (omega arith))

pub returns-clause-bytes : goal.returns-clause-bytes
returns-clause-bytes g c told =
    let shown = (g.D.Disk.contents c.args.disk.now).shown in
    let items : List ℕ = c.in_ok-page.page.items in
    let size : length items ≡ c.min-size.result = c.in_ok-page.ensures.size in
    let from : ℕ = c.args.at - c.args.at / 4096 * 4096 in
    let count : ℕ = c.min-count.result in
    let fits : from + count ≤ c.min-size.result = omega arith in
    let page_is : items ≡ take c.min-size.result (drop (4096 * (c.args.at / 4096)) shown) = c.in_ok-page.ensures.bytes told in
    let same : c.copy_held.new.buf ≡ c.args.buf.now = c.copy_held.ensures.same (λ held. let not = c.if-copy_held.false in cc) in
    laid_is c.deref.result.now items c.lay.new.buf c.copy_held.new.buf c.args.done from count c.deref.ensures.value (omega (arith, fits, size)) c.lay.ensures.front
    ∙ ap (λ (l : List ℕ). take c.args.done l ++ take count (drop from items)) same
    ∙ ap (λ (l : List ℕ). take c.args.done c.args.buf.now ++ l) (part_of items c.min-size.result (4096 * (c.args.at / 4096)) from count shown page_is fits ∙ ap (λ (k : ℕ). take count (drop k shown)) (omega arith))
