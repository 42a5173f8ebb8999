mod CallLists
mod Causes
mod Endings
mod Inside
mod Outcomes
mod Sources
mod Tables
mod Texts
