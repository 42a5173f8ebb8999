mod ApartLaws
mod Printing
