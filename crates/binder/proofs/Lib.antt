mod First
mod Spans
mod Going
mod Walking
mod Scopes
mod Asking
