mod Latches
mod Rising
