mod Cuts
mod Typed
