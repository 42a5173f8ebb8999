mod Some
mod Own
