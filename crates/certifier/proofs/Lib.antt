mod Rules
mod Present
mod Does
mod Reading
mod Writing
