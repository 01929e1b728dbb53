mod Digits
mod Nobodys
mod OtherLines
mod Reading
mod Several
mod Sound
mod Splitting
