pub mod Answers
pub mod Plate
pub mod Tetrahedron
pub mod Printed
