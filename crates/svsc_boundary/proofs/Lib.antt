mod FieldNumbers
mod Fieldless
