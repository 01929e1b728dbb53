mod Growth
mod Found
