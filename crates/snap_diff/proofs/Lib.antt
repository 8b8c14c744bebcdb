mod Walks
mod Afters
mod Names
mod Pages
mod Places
mod Starts
mod Texts
mod Ways
