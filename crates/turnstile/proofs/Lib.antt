mod Values
mod Histories
mod Keeps
mod Passing
mod Finishing
mod Gathering
