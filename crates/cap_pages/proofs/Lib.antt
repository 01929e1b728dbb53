mod Paging
mod Marked
mod Noting
mod Standing
