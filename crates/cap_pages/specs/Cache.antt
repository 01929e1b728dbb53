-- What a page cache shows to contracts.
use Rattle.std.specs.Prelude.{ℕ, List}
use Rattle.cap_pages.specs.Pages.{Page}
use Rattle.cap_pages.specs.declared.cache.PageCache.{PageCache}

-- the pages that it holds, the last used first
abbrev pub pages_of : PageCache → List Page
pages_of cache = cache.pages.entries

-- how many it may hold
abbrev pub most_of : PageCache → ℕ
most_of cache = cache.pages.cap
