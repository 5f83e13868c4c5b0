-- The marked examples that are proved.
mod Table
