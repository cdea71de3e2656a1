pub mod Sponge
